use mathlib.Core.Bool.{and-true, and_assoc}
use borrow.Author.Tests.{lt-ltb, le-ltb}
use mir.Facts.{to_z-of_z}
use Rattle.calendar.specs.TimeOfDay.{time_exists}
use Rattle.calendar.proofs.time_of_day.time_exists.Goals as goal

pub returns-then-second-lt60 : goal.returns-then-second-lt60
unfolding time_exists
returns-then-second-lt60 c = simp (lt-ltb _ _ c.if-second-lt60.true, and-true)

pub returns : goal.returns
unfolding time_exists
returns c =
    let utc = rw (to_z-of_z c.ranges.offset) at c.utc_minute-utc.ensures in
    simp (utc, le-ltb _ _ c.if-second-lt60.false, and_assoc)
