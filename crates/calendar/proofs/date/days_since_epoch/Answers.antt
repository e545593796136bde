use native.Mathlib.Omega.{arith}
use Rattle.gregorian.proofs.DateLaws.{known}
use Rattle.calendar.proofs.DateLaws.{days_small}
use Rattle.calendar.proofs.date.days_since_epoch.Goals as goal

pub overflow_sub-result : goal.overflow_sub-result
overflow_sub-result c = (known _ _ _ c.args.date.is_supported).year_least

pub overflow_add-result : goal.overflow_add-result
overflow_add-result c = omega (arith, c.days_less_years.ensures, days_small _ _ _ c.args.date.is_supported)
