use borrow.Author.Rules.{sfits_of}
use mathlib.Core.Path.{sym, ◌∙◌}
use mathlib.Core.Bool.{and-true, and-false, and_assoc}
use mir.Syntax.{w16}
use mir.Val.{SFits}
use mir.Facts.{to_z-of_z}
use Rattle.calendar.specs.UnixTime.{is_reading}
use Rattle.calendar.proofs.unix_time.is_reading.Goals as goal

pub returns-then-t-offset_in_range : goal.returns-then-t-offset_in_range
unfolding is_reading
returns-then-t-offset_in_range c =
    let f : SFits w16 c.args.t.utc_offset = search sfits_of in
    let rest-holds = rw (c.offset_in_range.ensures, to_z-of_z f, and_assoc) at c.if-t-offset_in_range.true in
    let known = sym (rw c.date.ensures at c.is_supported_date.ensures) ∙ c.if-is_supported_date.true in
    simp (c.time_exists.ensures, to_z-of_z f, and_assoc, known, rest-holds, and-true)

pub returns-then-is_supported_date : goal.returns-then-is_supported_date
unfolding is_reading
returns-then-is_supported_date c =
    let f : SFits w16 c.args.t.utc_offset = search sfits_of in
    let rest-fails = rw (c.offset_in_range.ensures, to_z-of_z f, and_assoc) at c.if-t-offset_in_range.false in
    simp (and_assoc, rest-fails, and-false)

pub returns : goal.returns
unfolding is_reading
returns c = let known = sym (rw c.date.ensures at c.is_supported_date.ensures) ∙ c.if-is_supported_date.false in simp known
