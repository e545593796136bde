use Rattle.dcf77.proofs.MarkLaws.{binary_first}
use Rattle.dcf77.proofs.marks.SureRun.hour.Goals as goal

pub returns : goal.returns
returns c = rw c.eight.ensures (binary_first _ c.args.self.now.is_sure.sure 7 1 29)
