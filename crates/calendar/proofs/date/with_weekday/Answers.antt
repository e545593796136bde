use borrow.Author.Rules.{sfits_of}
use mir.Syntax.{w16}
use mir.Val.{SFits}
use mir.Facts.{to_z-of_z}
use Rattle.calendar.specs.Date.{with_weekday}
use Rattle.calendar.proofs.date.with_weekday.Goals as goal

pub returns : goal.returns
unfolding with_weekday
returns c =
    let f : SFits w16 c.args.t.utc_offset = search sfits_of in
    simp (to_z-of_z f, c.weekday_or_zero.ensures, c.date.ensures)
