use Rattle.std.proofs.Common.{ap, arith}
use Rattle.clock_time.proofs.ListsLaws.{slice_known}
use Rattle.layout_words.specs.Words.{word}
use Rattle.layout_words.proofs.join.Goals as goal

pub returns : goal.returns
unfolding word
returns c = omega (arith, ap word (slice_known 8 c.args.bytes (omega arith)), c.join_eight.ensures)
