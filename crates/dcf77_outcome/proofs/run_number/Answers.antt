use mathlib.Core.Path.{sym}
use Rattle.dcf77_outcome.specs.Number.{run_number}
use Rattle.dcf77_outcome.proofs.RunLaws.{accepted_known, accepted_summer}
use Rattle.dcf77_outcome.proofs.run_number.Goals as goal

pub number_of-requires : goal.number_of-requires
number_of-requires c =
    let read = sym (rw c.in-Ok.is at c.read_minute.ensures) in
    record { supported = accepted_known _ _ read; summer = accepted_summer _ _ read }

pub returns-in-Ok : goal.returns-in-Ok
unfolding run_number
returns-in-Ok c = rw (← c.read_minute.ensures, c.in-Ok.is) c.number_of.ensures

pub returns-in-Err : goal.returns-in-Err
unfolding run_number
returns-in-Err c = rw (← c.read_minute.ensures, c.in-Err.is, c.from-in-Err.ensures, c.from.ensures)
