use Rattle.elv_dcf7000.proofs.ElvLaws.{flag_fault_lem}
use Rattle.elv_dcf7000.proofs.has_flag_fault.Goals as goal

pub returns : goal.returns
returns c = flag_fault_lem c.requires
