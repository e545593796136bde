-- Numbers that stand for a reading are that reading's.
use Prim.Native.Nat.{ℕ, zero, suc}
use native.Mathlib.Omega.{arith}
use mathlib.Core.Path.{◌≡◌, refl, ap, ◌∙◌}
use mathlib.Core.Bool.{Bool, true, false, false≢true}
use mathlib.Core.List.{List, [], ◌∷◌}
use lib.Dec.{T, leb, eqb, ltb, lit<}
use lib.ListN.{length, get_or}
use lib.IntN.{ℤ, pos, negsuc, nat_abs}
use borrow.Author.Tests.{leb-true, eqb-true}
use Rattle.clock_time.specs.Errors.{accepted}
use Rattle.clock_time.specs.Same.{eq_ℤ}
use Rattle.clock_time.specs.declared.ClockTime.{ClockTime}
use Rattle.clock_time.proofs.Tests.{both}
use Rattle.meinberg_gps.specs.declared.GpsTime.{GpsTime}
use Rattle.dcf77.specs.declared.MinuteTime.{MinuteTime}
use Rattle.c_numbers.specs.Numbers.{flag_number, time_numbers, gps_numbers, minute_numbers}
use Rattle.clock_time.specs.FieldRanges.{Range, up_to, within, time_ranges, gps_ranges}
use Rattle.c_fields.specs.Ranges.{minute_ranges, fits, fits_all}
use Rattle.c_fields.specs.Ranges.{at, is_set, time_from, gps_from, minute_from, numbered, time_of, gps_of, minute_of}
use Rattle.c_fields.proofs.RangeLaws.{fits_at, fits_first}

-- ---- one number
pos_abs : (m : ℕ) (z : ℤ) → within (up_to m) z ≡ true → pos (nat_abs z) ≡ z
pos_abs m (pos n) h = refl
pos_abs m (negsuc n) h = absurd (false≢true h)

flag_is_set : (z : ℤ) → within (up_to 1) z ≡ true → flag_number (is_set z) ≡ z
unfolding eq_ℤ
flag_is_set (pos zero) h = refl
flag_is_set (pos (suc zero)) h = refl
flag_is_set (pos (suc (suc n))) h =
    let k = leb-true (suc (suc n)) 1 (both (leb 0 (suc (suc n))) (leb (suc (suc n)) 1) h).1 in absurd (omega arith)
flag_is_set (negsuc n) h = absurd (false≢true h)

-- ---- the numbers of a list, one after the other
abbrev listed : ℕ → (ℕ → ℤ) → List ℤ
listed zero f = []
listed (suc n) f = f 0 ∷ listed n (λ i. f (suc i))

listed_all : (n : ℕ) (z : List ℤ) → length z ≡ n → listed n (λ i. at i z) ≡ z
listed_all zero [] e = refl
listed_all zero (x ∷ z) e = absurd (omega (arith, e))
listed_all (suc n) [] e = absurd (omega (arith, e))
listed_all (suc n) (x ∷ z) e = ap (λ (l : List ℤ). x ∷ l) (listed_all n z (omega (arith, e)))

-- ---- numbers that fit
module _ (z : List ℤ) where
  numbers_time_from : fits time_ranges z ≡ true → time_numbers (time_from z) ≡ listed 14 (λ i. at i z)
  unfolding time_ranges time_numbers time_from
  numbers_time_from h =
      simp (
        pos_abs 65535 (at 0 z) (place 0 tt),
        pos_abs 255 (at 1 z) (place 1 tt),
        pos_abs 255 (at 2 z) (place 2 tt),
        pos_abs 255 (at 3 z) (place 3 tt),
        pos_abs 255 (at 4 z) (place 4 tt),
        pos_abs 255 (at 5 z) (place 5 tt),
        pos_abs 255 (at 6 z) (place 6 tt),
        flag_is_set (at 8 z) (place 8 tt),
        flag_is_set (at 9 z) (place 9 tt),
        flag_is_set (at 10 z) (place 10 tt),
        flag_is_set (at 11 z) (place 11 tt),
        flag_is_set (at 12 z) (place 12 tt),
        flag_is_set (at 13 z) (place 13 tt),
      )
    where
      place : (i : ℕ) → T (ltb i 14) → within (get_or time_ranges i (up_to 0)) (at i z) ≡ true
      place i t = (fits_at time_ranges z h i (lit< t)).1

  numbers_gps_from : fits gps_ranges z ≡ true → gps_numbers (gps_from z) ≡ listed 17 (λ i. at i z)
  unfolding gps_ranges time_ranges gps_numbers gps_from
  numbers_gps_from h =
      rw (numbers_time_from (fits_first time_ranges _ z h))
      (simp (pos_abs 65535 (at 16 z) (fits_at gps_ranges z h 16 (lit< tt)).1))

  numbers_minute_from : fits minute_ranges z ≡ true → minute_numbers (minute_from z) ≡ listed 16 (λ i. at i z)
  unfolding minute_ranges time_ranges minute_numbers minute_from
  numbers_minute_from h =
      rw (numbers_time_from (fits_first time_ranges _ z h))
      (simp (
        pos_abs 65535 (at 14 z) (fits_at minute_ranges z h 14 (lit< tt)).1,
        flag_is_set (at 15 z) (fits_at minute_ranges z h 15 (lit< tt)).1,
      ))

-- ---- numbers that are accepted
numbered_accepted : {A : Type 0} (fit : Bool) (a b : A) → numbered fit a ≡ accepted b → (fit ≡ true) × (a ≡ b)
unfolding numbered
numbered_accepted true a b h = (refl, cc)
numbered_accepted false a b h = let e : ◌≡◌ {A = ℕ} 0 1 = cc in absurd (omega arith)

pub numbers_accepted : {A : Type 0} (rs : List Range) (from : List ℤ → A) (numbers : A → List ℤ) (z : List ℤ) (a : A)
    → (fits rs z ≡ true → numbers (from z) ≡ listed (length rs) (λ i. at i z))
    → numbered (fits_all rs z) (from z) ≡ accepted a → numbers a ≡ z
numbers_accepted rs from numbers z a numbers_from h =
    let w = numbered_accepted (fits_all rs z) (from z) a h in
    let v = both (eqb (length z) (length rs)) (fits rs z) w.0 in
    rw w.1 at (numbers_from v.1) ∙ listed_all (length rs) z (eqb-true (length z) (length rs) v.0)

pub numbers_time : (z : List ℤ) (t : ClockTime) → time_of z ≡ accepted t → time_numbers t ≡ z
unfolding time_ranges
numbers_time z t = numbers_accepted time_ranges time_from time_numbers z t (numbers_time_from z)

pub numbers_gps : (z : List ℤ) (g : GpsTime) → gps_of z ≡ accepted g → gps_numbers g ≡ z
unfolding gps_ranges time_ranges
numbers_gps z g = numbers_accepted gps_ranges gps_from gps_numbers z g (numbers_gps_from z)

pub numbers_minute : (z : List ℤ) (a : MinuteTime) → minute_of z ≡ accepted a → minute_numbers a ≡ z
unfolding minute_ranges time_ranges
numbers_minute z a = numbers_accepted minute_ranges minute_from minute_numbers z a (numbers_minute_from z)
