use Rattle.std.proofs.Common.{arith}
use Rattle.layout_words.specs.Words.{enough}
use Rattle.trimble_sv6.proofs.PlaceLaws.{tail_test}
use Rattle.trimble_sv6.proofs.format.tail_fits.Goals as goal

pub returns : goal.returns
unfolding enough
returns c =
    rw (c.word_at-bytes.ensures, c.told-s)
    (tail_test c.args.s.now (λ i. omega (arith, c.fits-s i)))
