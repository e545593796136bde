-- The numbers are bytes of one sum.
use Rattle.std.proofs.Common.{arith}
use Rattle.layout_words.proofs.PairLaws.{sums_small, seven_sums}
use Rattle.layout_words.proofs.pairs_at.Goals as goal

pub overflow_mul-sums : goal.overflow_mul-sums
overflow_mul-sums c = omega (arith, sums_small c.word_at.result c.join.ensures)

pub overflow_add-sums : goal.overflow_add-sums
overflow_add-sums c = omega (arith, sums_small c.word_at.result c.join.ensures)

pub returns : goal.returns
returns c =
    rw c.to_le_bytes.ensures (seven_sums _ c.join.ensures _ _ c.word_at.ensures (λ i. omega (arith, c.type_inv.s i)))
