use mathlib.Core.Path.{sym}
use Rattle.dcf77_outcome.specs.Instant.{is_minute_number}
use Rattle.dcf77_outcome.proofs.InstantLaws.{number_out, number_in, number_range}
use Rattle.dcf77_outcome.proofs.is_minute_number.Goals as goal

pub returns-then-number : goal.returns-then-number
returns-then-number c = sym (number_out _ c.if-number.true)

pub overflow_sub-sent : goal.overflow_sub-sent
overflow_sub-sent c = (number_range _ (number_in _ c.if-number.false)).0

pub returns : goal.returns
unfolding is_minute_number
returns c = rw (number_in _ c.if-number.false)
