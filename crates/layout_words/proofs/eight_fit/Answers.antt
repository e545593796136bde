use Rattle.std.proofs.Common.{arith, rules}
use Rattle.clock_time.specs.Lists.{slice}
use Rattle.clock_time.proofs.ListsLaws.{slice_known}
use Rattle.layout_words.specs.Words.{enough, sample_fits}
use Rattle.layout_words.proofs.WordLaws.{bytes_enough, each_byte}
use Rattle.layout_words.proofs.SampleLaws.{bytes_of, test_word}
use Rattle.layout_words.proofs.eight_fit.Goals as goal

pub returns : goal.returns
unfolding sample_fits
returns c =
    let sample = c.args.sample in
    let at = c.args.at in
    let s = c.args.s.now in
    let bytes = bytes_enough at s (λ i. omega (arith, c.type_inv.s i)) in
    let tests = bytes_of (slice 0 8 sample) (each_byte 8 0 sample (λ i. search rules)) in
    simp (
      c.join_by_sample-high.ensures,
      c.join_by_sample-more.ensures,
      c.join.ensures,
      c.word_at.ensures,
    )
    (rw (slice_known 8 sample (omega arith)) (test_word tests (enough at s) at bytes))
