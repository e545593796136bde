-- A run of marks is accepted exactly if the rules in words hold, and then its time is a valid reading.
use Prim.Native.Nat.{ℕ}
use mathlib.Core.Path.{◌≡◌, refl, ◌∙◌}
use mathlib.Core.Logic.{◌↔◌}
use mathlib.Core.Bool.{Bool, true, false, not, ◌&&◌}
use mathlib.Core.List.{List, [], ◌∷◌, ◌++◌}
use lib.Dec.{eqb}
use lib.ListN.{take, drop}
use borrow.Author.Tests.{not-false, eqb-true, eq-eqb}
use Rattle.clock_time.specs.Errors.{accepted, Check, Passes}
use Rattle.clock_time.proofs.ErrorLaws.{accepted_passes, passes_accepted}
use Rattle.clock_time.proofs.ExactLaws.{passes_exactly}
use Rattle.gregorian.proofs.DateLaws.{supported_exists}
use Rattle.gregorian.proofs.RulesLaws.{date_exactly}
use Rattle.calendar.specs.UnixTime.{is_reading}
use Rattle.calendar.specs.Representable.{is_representable}
use Rattle.calendar.specs.Rules.{ReadingRules}
use Rattle.calendar.proofs.RulesLaws.{time_exactly, weekday_exactly}
use Rattle.calendar.proofs.ValidLaws.{zone_in_range}
use Rattle.calendar.proofs.RepresentableLaws.{representable_reading, checked_representable}
use Rattle.dcf77.specs.Marks.{long, two_digits}
use Rattle.dcf77.specs.Minute.{announced, minute_fields, minute_checks, read_minute}
use Rattle.dcf77.specs.Says.{RunRules, LeapRule}
use Rattle.dcf77.specs.Accepts.{AcceptsMinute}
use Rattle.dcf77.specs.declared.MinuteTime.{MinuteTime}
use Rattle.dcf77.proofs.SaysLaws.{said_announced, fields_say, said_fields}
use Rattle.dcf77.proofs.LinesLaws.{run_rules, rules_run, leap_exactly}

-- the rules, of the time that the reader takes from the marks
abbrev pub KeepsRules : List ℕ → Type 0
KeepsRules m = RunRules m × ReadingRules (announced m) × LeapRule m (announced m)

pub leap_passes : (n : ℕ) (t : Bool) → (n ≡ 60 → t ≡ true) → (eqb n 60 && not t) ≡ false
leap_passes n t h = go (eqb n 60) refl
  where
    go : (u : Bool) → eqb n 60 ≡ u → (u && not t) ≡ false
    go true e = rw (h (eqb-true _ _ e))
    go false e = refl

passes_leap : (n : ℕ) (t : Bool) → (eqb n 60 && not t) ≡ false → n ≡ 60 → t ≡ true
passes_leap n t h e = not-false t (rw (eq-eqb n 60 e) at h)

-- ---- checks in two parts
parts : (ks ls : List Check) → Passes (ks ++ ls) → Passes ks × Passes ls
parts [] ls p = (tt, p)
parts (k ∷ ks) ls p = let w = parts ks ls p.1 in ((p.0, w.0), w.1)

whole : (ks ls : List Check) → Passes ks → Passes ls → Passes (ks ++ ls)
whole [] ls p q = q
whole (k ∷ ks) ls p q = (p.0, whole ks ls p.1 q)

module _ (m : List ℕ) where
  time_rules : Passes (drop 8 (minute_checks m)) → ReadingRules (announced m) × LeapRule m (announced m)
  unfolding minute_checks
  time_rules p =
      let weekday = (passes_exactly _ (weekday_exactly _)).0 p.0 in (
        record {
          date = (passes_exactly _ (date_exactly _ _ _)).0 p.1.0;
          time = (passes_exactly _ (time_exactly _ _ _ _)).0 p.1.1.0;
          weekday_least = weekday.0;
          weekday_most = weekday.1;
        },
        λ e. (leap_exactly m _).0 (passes_leap _ _ p.1.1.1.0 e),
      )

  rules_time : ReadingRules (announced m) → LeapRule m (announced m) → Passes (drop 8 (minute_checks m))
  unfolding minute_checks
  rules_time r leap = (
    (passes_exactly _ (weekday_exactly _)).1 (r.weekday_least, r.weekday_most),
    (
      (passes_exactly _ (date_exactly _ _ _)).1 r.date,
      (
        (passes_exactly _ (time_exactly _ _ _ _)).1 r.time,
        (leap_passes _ _ (λ e. (leap_exactly m _).1 (leap e)), tt),
      ),
    ),
  )

  pub read_keeps : (a : MinuteTime) → read_minute m ≡ accepted a → KeepsRules m × (a ≡ minute_fields m)
  unfolding read_minute minute_checks
  read_keeps a h =
      let w = accepted_passes (minute_checks m) (minute_fields m) a h in
      let p = parts (take 8 (minute_checks m)) (drop 8 (minute_checks m)) w.0 in
      let t = time_rules p.1 in
      ((run_rules m p.0, t.0, t.1), w.1)

  pub keeps_read : KeepsRules m → read_minute m ≡ accepted (minute_fields m)
  unfolding read_minute minute_checks
  keeps_read k =
      passes_accepted (minute_checks m) (minute_fields m)
      (whole (take 8 (minute_checks m)) (drop 8 (minute_checks m)) (rules_run m k.0) (rules_time k.1 k.2))

  -- in words
  read_accepts : (a : MinuteTime) → read_minute m ≡ accepted a → AcceptsMinute m a
  unfolding minute_fields
  read_accepts a h =
      let w = read_keeps a h in
      rw w.1 (w.0.0, fields_say m w.0.0, w.0.1, w.0.2)

  accepts_read : (a : MinuteTime) → AcceptsMinute m a → read_minute m ≡ accepted a
  accepts_read a w =
      let e = said_announced m w.0 a.time w.1.time in
      keeps_read (w.0, rw e at w.2, rw e at w.3) ∙ rw (said_fields m w.0 a w.1)

  pub read_exactly : (a : MinuteTime) → (read_minute m ≡ accepted a) ↔ AcceptsMinute m a
  read_exactly a = (read_accepts a, accepts_read a)

  pub keeps_representable : KeepsRules m → is_representable (announced m) ≡ true
  unfolding announced
  keeps_representable k =
      let t = k.1 in
      let date = supported_exists (two_digits 50 4 m) _ _ ∙ (date_exactly _ _ _).1 t.date in
      let time = (time_exactly _ _ _ _).1 t.time in
      checked_representable (announced m) date time t.weekday_least t.weekday_most
      (zone_in_range false (long 17 m))

  pub read_valid : (a : MinuteTime) → read_minute m ≡ accepted a → is_reading a.time ≡ true
  unfolding minute_fields
  read_valid a h =
      let w = read_keeps a h in rw w.1 (representable_reading (announced m) (keeps_representable w.0))
