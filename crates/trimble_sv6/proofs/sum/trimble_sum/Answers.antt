use Rattle.std.proofs.Common.{arith}
use Rattle.layout_words.specs.Words.{enough}
use Rattle.trimble_sv6.proofs.SumLaws.{sum_fitting}
use Rattle.trimble_sv6.proofs.sum.trimble_sum.Goals as goal

pub returns : goal.returns
unfolding enough
returns c =
    rw (
      c.fold.ensures,
      c.word_at-4.ensures,
      c.word_at-3.ensures,
      c.word_at-2.ensures,
      c.word_at.ensures,
      c.told-s,
    )
    (sum_fitting c.requires (λ i. omega (arith, c.fits-s i)))
