use mathlib.Core.Path.{sym}
use Rattle.dcf77_outcome.proofs.Theorems.{run_number_exactly}
use Rattle.demands.proofs.minutes.run_number.Goals as goal

pub returns : goal.returns
returns c = (run_number_exactly _ _).0 (sym c.run_number.ensures)
