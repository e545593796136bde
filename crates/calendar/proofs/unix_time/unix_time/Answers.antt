use mathlib.Core.Path.{sym, ◌∙◌}
use mir.Syntax.{w64}
use mir.Val.{SFits}
use mir.Facts.{to_z-of_z}
use borrow.Author.Rules.{sfits_of}
use Rattle.calendar.specs.UnixTime.{unix_time}
use Rattle.calendar.proofs.unix_time.unix_time.Goals as goal

pub instant_of-requires : goal.instant_of-requires
instant_of-requires c = sym c.is_reading.ensures ∙ c.if-is_reading.true

pub returns-then-is_reading : goal.returns-then-is_reading
unfolding unix_time
returns-then-is_reading c =
    let f : SFits w64 c.instant_of.result = search sfits_of in
    rw (to_z-of_z f)
    (simp (c.instant_of.ensures, ← c.is_reading.ensures, c.if-is_reading.true))

pub returns : goal.returns
unfolding unix_time
returns c = simp (← c.is_reading.ensures, c.if-is_reading.false)
