-- The weekday of a date is 0 exactly if the date is not supported, and else 1 to 7.
use Prim.Native.Nat.{ℕ, ◌≤◌}
use native.Mathlib.Omega.{arith}
use mathlib.Core.Path.{◌≡◌, refl}
use mathlib.Core.Bool.{Bool, true, false, cond}
use Rattle.gregorian.specs.Date.{supported_date, first_year, last_year}
use Rattle.calendar.specs.Date.{weekday_number, weekday_or_zero}

module _ (y m d : ℕ) where
  pub weekday_zero : weekday_or_zero y m d ≡ 0 → supported_date first_year last_year y m d ≡ false
  unfolding weekday_or_zero weekday_number
  weekday_zero = go (supported_date first_year last_year y m d)
    where
      go : (b : Bool) → cond b (weekday_number y m d) 0 ≡ 0 → b ≡ false
      go true h = let z : ⊥ = omega (arith, h) in absurd z
      go false h = refl

  pub weekday_some : (weekday_or_zero y m d ≡ 0 → ⊥) → supported_date first_year last_year y m d ≡ true
  unfolding weekday_or_zero
  weekday_some = go (supported_date first_year last_year y m d)
    where
      go : (b : Bool) → (cond b (weekday_number y m d) 0 ≡ 0 → ⊥) → b ≡ true
      go true h = refl
      go false h = absurd (h refl)

  pub weekday_least : supported_date first_year last_year y m d ≡ true → 1 ≤ weekday_or_zero y m d
  unfolding weekday_or_zero weekday_number
  weekday_least h = rw h (omega arith)

  pub weekday_most : supported_date first_year last_year y m d ≡ true → weekday_or_zero y m d ≤ 7
  unfolding weekday_or_zero weekday_number
  weekday_most h = rw h (omega arith)
