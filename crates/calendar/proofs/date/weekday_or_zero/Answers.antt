use native.Mathlib.Omega.{arith}
use Prim.Native.Nat.{ℕ, ◌+◌, ◌-◌, ◌*◌, ◌/◌, ◌<◌}
use mathlib.Core.Path.{◌≡◌, sym}
use mathlib.Core.Bool.{true}
use Rattle.clock_time.specs.declared.Date.{Date}
use Rattle.gregorian.specs.Date.{supported_date, first_year, last_year}
use Rattle.calendar.specs.Date.{weekday_or_zero, days_since_epoch}
use Rattle.gregorian.proofs.DateLaws.{known}
use Rattle.calendar.proofs.DateLaws.{rest_small, weekday_sum}
use Rattle.calendar.proofs.date.weekday_or_zero.Goals as goal

module _ (date supported : Date) (less : ℕ)
    (told : true ≡ supported_date first_year last_year date.year date.month date.day) (same : supported ≡ date)
    (counted : 365 * (supported.year - 1970) + less ≡ days_since_epoch supported.year supported.month supported.day)
  where
    counted_here : 365 * (date.year - 1970) + less ≡ days_since_epoch date.year date.month date.day
    counted_here = rw same at counted

    small : 3 + (date.year - 1970) + less < 600
    small = omega (arith, (known _ _ _ (sym told)).year_most, rest_small _ _ _ _ (sym told) counted_here)

    weekday : (weeks : ℕ) → weeks ≡ (3 + (date.year - 1970) + less) / 7
        → 1 + (3 + (date.year - 1970) + less - 7 * weeks) ≡ weekday_or_zero date.year date.month date.day
    weekday weeks e = weekday_sum _ _ _ _ (sym told) counted_here _ e

pub overflow_sub-days : goal.overflow_sub-days
overflow_sub-days c = (known _ _ _ (sym c.in-Some.ensures.known)).year_least

pub overflow_add-days : goal.overflow_add-days
overflow_add-days c = omega (arith, (known _ _ _ (sym c.in-Some.ensures.known)).year_most)

pub overflow_add-days-in-Some : goal.overflow_add-days-in-Some
overflow_add-days-in-Some c =
    omega (arith, small _ _ _ c.in-Some.ensures.known c.in-Some.ensures.same c.days_less_years.ensures)

pub weeks-requires : goal.weeks-requires
weeks-requires c = small _ _ _ c.in-Some.ensures.known c.in-Some.ensures.same c.days_less_years.ensures

pub overflow_mul-result : goal.overflow_mul-result
overflow_mul-result c =
    let s = small _ _ _ c.in-Some.ensures.known c.in-Some.ensures.same c.days_less_years.ensures in
    omega (arith, s, c.weeks.ensures)

pub overflow_sub-result : goal.overflow_sub-result
overflow_sub-result c = omega (arith, c.weeks.ensures)

pub overflow_cast-result : goal.overflow_cast-result
overflow_cast-result c =
    let s = small _ _ _ c.in-Some.ensures.known c.in-Some.ensures.same c.days_less_years.ensures in
    omega (arith, s, c.weeks.ensures)

pub overflow_add-result : goal.overflow_add-result
overflow_add-result c =
    let s = small _ _ _ c.in-Some.ensures.known c.in-Some.ensures.same c.days_less_years.ensures in
    omega (arith, s, c.weeks.ensures)

pub returns-in-Some : goal.returns-in-Some
returns-in-Some c =
    weekday _ _ _ c.in-Some.ensures.known c.in-Some.ensures.same c.days_less_years.ensures _ c.weeks.ensures

pub returns-in-None : goal.returns-in-None
unfolding weekday_or_zero
returns-in-None c = simp (← c.in-None.ensures.known)
