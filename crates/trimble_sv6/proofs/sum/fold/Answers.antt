-- A word's eight bytes are folded to four, to two and to one.
use Rattle.std.proofs.Common.{sym}
use Rattle.trimble_sv6.proofs.SumLaws.{folded}
use Rattle.trimble_sv6.proofs.sum.fold.Goals as goal

pub returns : goal.returns
returns c = sym (folded c.args.w)
