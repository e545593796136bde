use Rattle.gregorian.proofs.DateLaws.{early_day, late_day, no_date}
use Rattle.gregorian.proofs.date_exists.Goals as goal

pub returns-then-month : goal.returns-then-month
returns-then-month c = let a = c.args.date in no_date a.year a.month a.day c.if-month.true

pub returns-then-day-le28 : goal.returns-then-day-le28
returns-then-day-le28 c =
    let a = c.args.date in
    early_day a.year a.month a.day c.if-month.false c.if-day-le28.true

pub returns : goal.returns
returns c =
    let a = c.args.date in
    rw c.days_in_month.ensures (late_day a.year a.month a.day c.if-day-le28.false)
