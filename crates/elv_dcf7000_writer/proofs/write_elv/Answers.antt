use Rattle.layout.proofs.DecideLaws.{clock_writes}
use Rattle.elv_dcf7000.specs.Elv.{elv, write_elv}
use Rattle.elv_dcf7000.proofs.ElvLaws.{decides}
use Rattle.elv_dcf7000_writer.proofs.write_elv.Goals as goal

pub returns : goal.returns
unfolding write_elv elv
returns c = search (clock_writes decides)
