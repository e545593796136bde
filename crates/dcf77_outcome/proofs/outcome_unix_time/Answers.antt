use borrow.Author.Rules.{sfits_of}
use mathlib.Core.Path.{◌≡◌, sym, ◌∙◌}
use mathlib.Core.Bool.{true}
use mir.Syntax.{w16, w64}
use mir.Val.{SFits}
use mir.Facts.{to_z-of_z}
use Rattle.dcf77_outcome.specs.Instant.{is_minute_number, outcome_instant, outcome_unix_time}
use Rattle.dcf77_outcome.proofs.InstantLaws.{number_least}
use Rattle.dcf77_outcome.proofs.outcome_unix_time.Goals as goal

pub overflow_sub-sent : goal.overflow_sub-sent
overflow_sub-sent c = number_least _ (sym c.is_minute_number.ensures ∙ c.if-is_minute_number.true)

pub returns-then-is_minute_number : goal.returns-then-is_minute_number
unfolding outcome_unix_time outcome_instant
returns-then-is_minute_number c =
    let passes : is_minute_number c.args.number ≡ true =
    sym c.is_minute_number.ensures ∙ c.if-is_minute_number.true in
    let f : SFits w64 c.utc_of_minutes.result = search sfits_of in
    let g : SFits w16 c.cet_offset-offset.result = search sfits_of in
    let utc = rw (to_z-of_z g, c.cet_offset-offset.ensures) at c.utc_of_minutes.ensures in
    rw (to_z-of_z f, utc) (rw passes)

pub returns : goal.returns
unfolding outcome_unix_time
returns c = rw (← c.is_minute_number.ensures, c.if-is_minute_number.false)
