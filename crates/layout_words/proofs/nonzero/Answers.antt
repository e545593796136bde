use Rattle.std.proofs.Common.{arith}
use lib.Bits.{and_le_r}
use Rattle.layout_words.specs.Words.{word}
use Rattle.layout_words.proofs.FlagLaws.{nonzero_word}
use Rattle.layout_words.proofs.nonzero.Goals as goal

pub overflow_add-result : goal.overflow_add-result
unfolding word
overflow_add-result c =
    let low = c.join-low in
    omega (arith, and_le_r c.args.w low.result, low.ensures)

pub returns : goal.returns
returns c = rw (c.join-low.ensures, c.join-high.ensures) (nonzero_word 8 c.args.w)
