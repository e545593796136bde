use Rattle.calendar.specs.Date.{day_number}
use Rattle.calendar.proofs.DateLaws.{day_known}
use Rattle.calendar.proofs.date.day_number.Goals as goal

pub returns-in-Some : goal.returns-in-Some
returns-in-Some c =
    let known = day_known _ _ _ c.in-Some.supported.is_supported in
    rw (c.days_since_epoch.ensures, ← c.in-Some.ensures.same, known)

pub returns-in-None : goal.returns-in-None
unfolding day_number
returns-in-None c = simp (← c.in-None.ensures.known)
