use Rattle.gregorian.specs.Date.{supported_date}
use Rattle.gregorian.proofs.is_supported_date.Goals as goal

pub returns-then-least-year : goal.returns-then-least-year
unfolding supported_date
returns-then-least-year c = simp (c.date_exists.ensures, c.if-least-year.true)

pub returns : goal.returns
unfolding supported_date
returns c = simp c.if-least-year.false
