-- The instant of a reading's numbers: the first 14 are those of one valid reading or of none.
use Prim.Native.Nat.{ℕ}
use mathlib.Core.Path.{◌≡◌, refl, sym, ap, ◌∙◌}
use mathlib.Core.Logic.{◌↔◌}
use mathlib.Core.Bool.{Bool, true, false, not, ◌&&◌, false≢true}
use mathlib.Core.List.{List, [], ◌∷◌, ◌++◌, append_assoc}
use lib.Dec.{lit<}
use lib.ListN.{length, take, drop, take-append-drop}
use lib.Seq.{get_or-take, take_at}
use lib.IntN.{ℤ, pos}
use borrow.Author.Tests.{eq-eqb, not-false}
use Rattle.clock_time.specs.Errors.{accepted, given, checked}
use Rattle.clock_time.specs.Called.{called, called_answer}
use Rattle.clock_time.specs.declared.ClockTime.{ClockTime}
use Rattle.clock_time.proofs.ErrorLaws.{apart, accepted_passes}
use Rattle.clock_time.proofs.OrderLaws.{Agree}
use Rattle.clock_time.proofs.Tests.{both}
use Rattle.calendar.specs.Date.{days_since_epoch}
use Rattle.calendar.specs.Rules.{ValidReading}
use Rattle.calendar.specs.UnixTime.{is_reading, instant_of, unix_time}
use Rattle.calendar.proofs.RulesLaws.{valid_exactly}
use Rattle.calendar.proofs.Theorems.{day_after_exactly}
use Rattle.dcf77_outcome.specs.Instant.{is_minute_number, outcome_instant, outcome_unix_time}
use Rattle.dcf77_outcome.proofs.Theorems.{minute_number_exactly, announced_instant}
use Rattle.c_numbers.specs.Numbers.{time_numbers, time_count}
use Rattle.clock_time.specs.FieldRanges.{Range, within, time_ranges}
use Rattle.c_fields.specs.Ranges.{fits, time_from, numbered}
use Rattle.c_fields.proofs.FitsLaws.{first_time_numbers}
use Rattle.c_fields.proofs.Theorems as fields
use Rattle.time_string.specs.declared.Reading.{Reading}
use Rattle.time_string.specs.Row.{reading_time}
use Rattle.c_readings.specs.Strings.{reading_numbers, unix_time_of}
use Rattle.demands.specs.Accepted.{AcceptsNumbered}
use Rattle.demands.specs.Lines.{instant_lines_of}
use Rattle.demands.specs.Instant.{Instant, InstantOf, InstantOfNumbers, OutcomeInstant}
use Rattle.demands.specs.Exactly.{ReadsExactly}
use Rattle.demands.proofs.FitsLaws.{valid_fits}
use Rattle.demands.proofs.NumbersLaws.{valid_numbers}
use Rattle.demands.proofs.EntryLaws.{unix_time_checks}

-- ---- the instant of a clock time
pub instant_exactly : (t : ClockTime) → ValidReading t → (z : ℤ) → (z ≡ instant_of t) ↔ Instant t z
unfolding instant_of
instant_exactly t v z = (
  λ e. (days_since_epoch t.year t.month t.day, ((day_after_exactly _ _ _ _).1 (v.date, v.year_least, refl), e)),
  λ h. let e = ((day_after_exactly _ _ _ _).0 h.1.0).2 in h.1.1 ∙ rw e,
)

pub unix_time_exactly : (t : ClockTime) → ReadsExactly (InstantOf t) (unix_time t)
unfolding unix_time
unix_time_exactly t z = go (is_reading t) refl
  where
    go : (b : Bool) → is_reading t ≡ b → (checked (given 23 (not b) ∷ []) (instant_of t) ≡ accepted z) ↔ InstantOf t z
    go true e =
        let v = (valid_exactly t).0 e in (
          λ h. (v, (instant_exactly t v z).0 (cc)),
          λ r. ap accepted (sym ((instant_exactly t v z).1 r.1)),
        )
    go false e = (λ h. apart (sym h), λ r. absurd (false≢true (sym e ∙ (valid_exactly t).1 r.0)))

-- ---- the instant of an outcome
outcome_passes : (n : ℕ) (z : ℤ) → outcome_unix_time n ≡ accepted z → is_minute_number n ≡ true
unfolding outcome_unix_time
outcome_passes n z h =
    not-false _ (accepted_passes (given 23 (not (is_minute_number n)) ∷ []) (outcome_instant n) z h).0.0

pub outcome_exactly : (n : ℕ) → ReadsExactly (OutcomeInstant n) (outcome_unix_time n)
outcome_exactly n z = (
  λ h.
      let w = (minute_number_exactly n).0 (outcome_passes n z h) in
      let a = w.1.0 in
      let same = announced_instant w.0 a w.1.1.0 n w.1.1.1 in
      (w.0, (a, (w.1.1.0, w.1.1.1, (unix_time_exactly a.time z).0 (sym same ∙ h)))),
  λ w.
      let a = w.1.0 in
      announced_instant w.0 a w.1.1.0 n w.1.1.1 ∙ (unix_time_exactly a.time z).1 w.1.1.2,
)

-- ---- the first numbers
fits_take : (rs : List Range) (z : List ℤ) → fits rs z ≡ true
    → (fits rs (take (length rs) z) ≡ true) × (length (take (length rs) z) ≡ length rs)
unfolding fits
fits_take [] z h = (refl, refl)
fits_take (r ∷ rs) [] h = absurd (false≢true h)
fits_take (r ∷ rs) (x ∷ z) h =
    let w = both (within r x) (fits rs z) h in
    let i = fits_take rs z w.1 in
    (rw w.0 i.0, rw i.1 refl)

from_take : (z : List ℤ) → time_from (take time_count z) ≡ time_from z
unfolding time_from
from_take z =
    simp (
      get_or-take time_count z 0 (pos 0) (lit< tt),
      get_or-take time_count z 1 (pos 0) (lit< tt),
      get_or-take time_count z 2 (pos 0) (lit< tt),
      get_or-take time_count z 3 (pos 0) (lit< tt),
      get_or-take time_count z 4 (pos 0) (lit< tt),
      get_or-take time_count z 5 (pos 0) (lit< tt),
      get_or-take time_count z 6 (pos 0) (lit< tt),
      get_or-take time_count z 7 (pos 0) (lit< tt),
      get_or-take time_count z 8 (pos 0) (lit< tt),
      get_or-take time_count z 9 (pos 0) (lit< tt),
      get_or-take time_count z 10 (pos 0) (lit< tt),
      get_or-take time_count z 11 (pos 0) (lit< tt),
      get_or-take time_count z 12 (pos 0) (lit< tt),
      get_or-take time_count z 13 (pos 0) (lit< tt),
    )

-- numbers that fit are those of the clock time that they stand for
fit_numbers : (z : List ℤ) → fits time_ranges z ≡ true → take time_count z ≡ time_numbers (time_from z)
unfolding time_ranges numbered
fit_numbers z h =
    let w = fits_take time_ranges z h in
    rw (from_take z) at
    (sym (fields.numbers_time (take time_count z) (time_from (take time_count z)) (simp (eq-eqb _ _ w.1, w.0))))

numbered_accepted : {A : Type 0} (fit : Bool) (a b : A) → numbered fit a ≡ accepted b → (fit ≡ true) × (a ≡ b)
unfolding numbered
numbered_accepted true a b h = (refl, cc)
numbered_accepted false a b h = apart (sym h)

-- and the numbers of a valid reading fit
numbers_fit : (z : List ℤ) (t : ClockTime) → ValidReading t → take time_count z ≡ time_numbers t
    → (fits time_ranges z ≡ true) × (time_from z ≡ t)
numbers_fit z t v e =
    numbered_accepted (fits time_ranges z) (time_from z) t
    (rw (← (take-append-drop time_count z))
    (rw e (first_time_numbers t (valid_fits t ((valid_exactly t).1 v)) (drop time_count z))))

time_long : (t : ClockTime) → length (time_numbers t) ≡ time_count
unfolding time_numbers
time_long t = refl

-- ---- the instant of numbers
-- the numbers fit, and what they stand for is valid
abbrev pub of_valid : List ℤ → Bool
of_valid z = fits time_ranges z && is_reading (time_from z)

pub numbers_checks : (z : List ℤ) → unix_time_of z ≡ checked (given 23 (not (of_valid z)) ∷ []) (instant_of (time_from z))
numbers_checks z = unix_time_checks z ∙ go (fits time_ranges z) (is_reading (time_from z))
  where
    go : (a b : Bool) → checked (given 23 (not a) ∷ given 23 (not b) ∷ []) (instant_of (time_from z))
        ≡ checked (given 23 (not (a && b)) ∷ []) (instant_of (time_from z))
    go true b = refl
    go false b = refl

-- some valid reading has the first 14 numbers
valid_of : (z : List ℤ) → of_valid z ≡ true → ValidReading (time_from z) × (take time_count z ≡ time_numbers (time_from z))
valid_of z h = let w = both _ _ h in ((valid_exactly _).0 w.1, fit_numbers z w.0)

of_valid_lem : (z : List ℤ) (t : ClockTime) → ValidReading t → take time_count z ≡ time_numbers t
    → (of_valid z ≡ true) × (time_from z ≡ t)
of_valid_lem z t v e =
    let w = numbers_fit z t v e in (simp (w.0, w.1, (valid_exactly t).1 v), w.1)

pub numbers_agree : (z : List ℤ) → Agree (given 23 (not (of_valid z)) ∷ []) (instant_lines_of z)
numbers_agree z = (refl, go (of_valid z) refl, λ p. tt)
  where
    None : Type 0
    None = (t : ClockTime) → ValidReading t → take time_count z ≡ time_numbers t → ⊥

    go : (b : Bool) → of_valid z ≡ b → (not b ≡ true) ↔ None
    go true q = (λ h. absurd (false≢true h), λ none. absurd (let w = valid_of z q in none _ w.0 w.1))
    go false q = (λ h t v e. false≢true (sym q ∙ (of_valid_lem z t v e).0), λ none. refl)

pub numbers_exactly : (z : List ℤ) → ReadsExactly (InstantOfNumbers z) (unix_time_of z)
numbers_exactly z i = rw (numbers_checks z) (go (of_valid z) refl)
  where
    go : (b : Bool) → of_valid z ≡ b
        → (checked (given 23 (not b) ∷ []) (instant_of (time_from z)) ≡ accepted i) ↔ InstantOfNumbers z i
    go true q =
        let w = valid_of z q in (
          λ h. (time_from z, (w.1, (w.0, (instant_exactly (time_from z) w.0 i).0 (cc)))),
          λ r.
              let same = (of_valid_lem z r.0 r.1.1.0 r.1.0).1 in
              ap accepted (ap instant_of same ∙ sym ((instant_exactly r.0 r.1.1.0 i).1 r.1.1.1)),
        )
    go false q = (
      λ h. apart (sym h),
      λ r. absurd (false≢true (sym q ∙ (of_valid_lem z r.0 r.1.1.0 r.1.0).0)),
    )

-- of a valid reading's numbers and any others after them
pub instant_first : (t : ClockTime) → ValidReading t → (z more : List ℤ) → z ≡ time_numbers t ++ more → (old : ℤ)
    → called_answer old (unix_time_of z) ≡ called 0 (instant_of t)
instant_first t v z more e old =
    let first : take time_count z ≡ time_numbers t = rw e (take_at _ _ time_count (time_long t)) in
    rw ((numbers_exactly z (instant_of t)).1 (t, (first, (v, (instant_exactly t v _).0 refl)))) refl

-- what a reader left in front of what was lent
pub instant_left : (n : ℕ) (s : List ℕ) (r : Reading) → AcceptsNumbered n s r → (z rest : List ℤ)
    → z ≡ reading_numbers r ++ rest → (old : ℤ)
    → called_answer old (unix_time_of z) ≡ called 0 (instant_of (reading_time r))
instant_left n s r h z rest e old =
    let v = valid_numbers n s r h in
    let t = reading_time r in
    instant_first t v.0 z (v.1 ++ rest) (e ∙ rw v.2 (append_assoc (time_numbers t) v.1 rest)) old
