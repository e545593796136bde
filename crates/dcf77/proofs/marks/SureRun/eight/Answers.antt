use Rattle.dcf77.proofs.MarkLaws.{eight_marks}
use Rattle.dcf77.proofs.marks.SureRun.eight.Goals as goal

pub returns : goal.returns
returns c =
    rw (c.four_at-low.ensures.1, c.four_at-high.ensures.1)
    (eight_marks c.args.self.now.marks.now c.args.self.now.is_sure.sure c.args.at)
