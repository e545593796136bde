use borrow.Author.Tests.{eq-eqb, ne_eqb}
use Rattle.calendar.proofs.DateLaws.{weekday_answer}
use Rattle.calendar.proofs.date.weekday_of.Goals as goal

pub returns-then-weekday-eq0 : goal.returns-then-weekday-eq0
returns-then-weekday-eq0 c = simp (weekday_answer, ← c.weekday_or_zero-weekday.ensures, eq-eqb _ _ c.if-weekday-eq0.true)

pub returns : goal.returns
returns c = simp (weekday_answer, ← c.weekday_or_zero-weekday.ensures, ne_eqb _ _ c.if-weekday-eq0.false)
