-- The lengths of the months by their number.
use Rattle.std.proofs.Common.{eqb, sym, arith}
use Rattle.gregorian.specs.Date.{is_leap_year, days_in_month}
use Rattle.gregorian.proofs.DateLaws.{byte_small, lacking_small, no_month, some_month, month_length}
use Rattle.gregorian.proofs.days_in_month.Goals as goal

pub returns-then-month : goal.returns-then-month
returns-then-month c = sym (no_month c.args.year c.args.month c.if-month.true)

pub overflow_sub-lacking : goal.overflow_sub-lacking
overflow_sub-lacking c = omega (arith, byte_small c.is_leap_year.result)

pub overflow_mul-lacking : goal.overflow_mul-lacking
overflow_mul-lacking c = omega (arith, lacking_small (eqb c.args.month 2) c.is_leap_year.result)

pub overflow_add-result : goal.overflow_add-result
overflow_add-result c = omega (arith, (some_month c.args.month c.if-month.false).1)

pub overflow_sub-result : goal.overflow_sub-result
overflow_sub-result c = omega (arith, lacking_small (eqb c.args.month 2) c.is_leap_year.result)

pub returns : goal.returns
unfolding days_in_month
returns c =
    let a = c.args in
    let m = some_month a.month c.if-month.false in
    rw c.is_leap_year.ensures (month_length (is_leap_year a.year) a.month m.0 m.1)
