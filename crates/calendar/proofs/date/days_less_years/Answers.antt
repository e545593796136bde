use native.Mathlib.Omega.{arith}
use Prim.Native.Nat.{◌*◌, ◌≤◌}
use lib.Dec.{ltb}
use mir.Val.{bool_byte}
use Rattle.gregorian.proofs.DateLaws.{known}
use Rattle.calendar.proofs.DateLaws.{from_march, days_sum}
use Rattle.calendar.proofs.date.days_less_years.Goals as goal

march : (c : goal.Start) → 3 * bool_byte (ltb 2 c.args.date.date.month) ≤ c.args.date.date.month
march c = from_march c.args.date.date.month

pub overflow_sub-years : goal.overflow_sub-years
overflow_sub-years c = (known _ _ _ c.args.date.is_supported).year_least

pub overflow_add-result-2 : goal.overflow_add-result-2
overflow_add-result-2 c = omega (arith, march c)

pub overflow_add-result-3 : goal.overflow_add-result-3
overflow_add-result-3 c = omega (arith, march c)

pub overflow_add-result-4 : goal.overflow_add-result-4
overflow_add-result-4 c = omega (arith, march c)

pub overflow_sub-result : goal.overflow_sub-result
overflow_sub-result c = let k = known _ _ _ c.args.date.is_supported in omega arith

pub overflow_mul-result-2 : goal.overflow_mul-result-2
overflow_mul-result-2 c = omega (arith, march c)

pub overflow_sub-result-2 : goal.overflow_sub-result-2
overflow_sub-result-2 c = let k = known _ _ _ c.args.date.is_supported in omega (arith, march c)

pub returns : goal.returns
returns c = days_sum _ _ _ c.args.date.is_supported
