-- The number of a run of marks is the one that it has in words.
use Prim.Native.Nat.{ℕ, ◌*◌, ◌≤◌}
use native.Mathlib.Omega.{arith}
use mathlib.Core.Path.{◌≡◌, refl, sym, ap, ◌∙◌}
use mathlib.Core.Logic.{◌↔◌}
use mathlib.Core.Bool.{Bool, true, false, false≢true}
use mathlib.Core.List.{List}
use lib.IntN.{pos}
use Rattle.clock_time.specs.Errors.{Answer, accepted, refused}
use Rattle.clock_time.specs.Same.{eq_ℤ}
use Rattle.clock_time.proofs.SameLaws.{eq_ℤ_refl, eq_ℤ_true}
use Rattle.calendar.specs.Date.{days_since_epoch}
use Rattle.gregorian.specs.Rules.{GregorianDate}
use Rattle.gregorian.proofs.DateLaws.{known}
use Rattle.calendar.proofs.Theorems.{day_after_exactly}
use Rattle.dcf77.specs.Minute.{mark, read_minute}
use Rattle.dcf77.specs.declared.MinuteTime.{MinuteTime}
use Rattle.dcf77.proofs.Theorems.{read_minute_exactly, refused_minute_exactly}
use Rattle.dcf77_outcome.specs.Number.{outcome_number, run_number}
use Rattle.dcf77_outcome.specs.RunNumber.{Adds, MinuteNumber, RunNumber}
use Rattle.dcf77_outcome.proofs.RunLaws.{accepted_known}

-- ---- what is added for a test that passes exactly if P
test_adds : (much : ℕ) (b : Bool) {P : Type 0} → ((b ≡ true) ↔ P) → Adds much P (much * mark b)
test_adds much true i = record { so = λ p. omega arith; otherwise = λ d. absurd (d (i.0 refl)) }
test_adds much false i = record { so = λ p. absurd (false≢true (i.1 p)); otherwise = λ d. omega arith }

adds_test : (much : ℕ) (b : Bool) {P : Type 0} {k : ℕ} → ((b ≡ true) ↔ P) → Adds much P k → k ≡ much * mark b
adds_test much true i a = a.so (i.0 refl) ∙ omega arith
adds_test much false i a = a.otherwise (λ p. false≢true (i.1 p)) ∙ omega arith

flag : (b : Bool) → (b ≡ true) ↔ (b ≡ true)
flag b = (λ h. h, λ h. h)

module _ (a : MinuteTime) where
  offset : (eq_ℤ a.time.utc_offset (pos 120) ≡ true) ↔ (a.time.utc_offset ≡ pos 120)
  offset = (eq_ℤ_true _ _, λ e. rw e (eq_ℤ_refl (pos 120)))

  -- ---- a minute
  outcome_number_lem : GregorianDate a.time.year a.time.month a.time.day → 1970 ≤ a.time.year
      → MinuteNumber a (outcome_number (accepted a))
  outcome_number_lem date first =
      record {
        days = days_since_epoch a.time.year a.time.month a.time.day;
        date = (day_after_exactly _ _ _ _).1 (date, first, refl);
        L = _;
        local_minutes = refl;
        for_60 = _;
        run_of_60 = test_adds 16 _ (flag _);
        for_offset = _;
        offset_120 = test_adds 8 _ offset;
        for_antenna = _;
        antenna = test_adds 4 _ (flag _);
        for_change = _;
        change = test_adds 2 _ (flag _);
        for_leap = _;
        leap = test_adds 1 _ (flag _);
        number = omega arith;
      }

  pub number_outcome : (n : ℕ) → MinuteNumber a n → outcome_number (accepted a) ≡ n
  number_outcome n w =
      let t = a.time in
      let days = ((day_after_exactly w.days t.year t.month t.day).0 w.date).2 in
      omega (
        arith,
        w.number,
        w.local_minutes,
        days,
        adds_test 16 a.detail.sixty (flag _) w.run_of_60,
        adds_test 8 (eq_ℤ t.utc_offset (pos 120)) offset w.offset_120,
        adds_test 4 t.alternate_antenna (flag _) w.antenna,
        adds_test 2 t.dst_change_announced (flag _) w.change,
        adds_test 1 t.leap_second_announced (flag _) w.leap,
      )

-- ---- a run
pub accepted_number : (m : List ℕ) (a : MinuteTime) → read_minute m ≡ accepted a
    → MinuteNumber a (outcome_number (accepted a))
accepted_number m a h =
    let date = known _ _ _ (accepted_known m a h) in
    outcome_number_lem a ((read_minute_exactly m a).0 h).2.date date.year_least

in_words : (m : List ℕ) → RunNumber m (run_number m)
unfolding run_number
in_words m =
    record {
      refused = λ k h. ap outcome_number ((refused_minute_exactly m k).1 h);
      accepted = λ a h.
          let e = (read_minute_exactly m a).1 h in
          rw e (accepted_number m a e);
    }

words_number : (m : List ℕ) (n : ℕ) → RunNumber m n → run_number m ≡ n
unfolding run_number
words_number m n w = go (read_minute m) refl
  where
    go : (r : Answer MinuteTime) → read_minute m ≡ r → outcome_number r ≡ n
    go (accepted a) e = number_outcome a n (w.accepted a ((read_minute_exactly m a).0 e))
    go (refused k) e = sym (w.refused k ((refused_minute_exactly m k).0 e))

pub run_exactly : (m : List ℕ) (n : ℕ) → (run_number m ≡ n) ↔ RunNumber m n
run_exactly m n = (λ e. rw (← e) (in_words m), words_number m n)
