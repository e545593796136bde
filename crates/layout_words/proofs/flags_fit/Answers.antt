use Rattle.std.proofs.Common.{arith, rules}
use Rattle.clock_time.specs.Lists.{slice}
use Rattle.clock_time.proofs.ListsLaws.{slice_known}
use Rattle.layout_words.specs.Words.{enough, flags_fit}
use Rattle.layout_words.proofs.WordLaws.{bytes_of, bytes_enough, each_byte}
use Rattle.layout_words.proofs.FlagLaws.{flag_word}
use Rattle.layout_words.proofs.flags_fit.Goals as goal

pub returns : goal.returns
unfolding flags_fit
returns c =
    let letters = slice 0 7 c.args.letters in
    let at = c.args.at in
    let s = c.args.s.now in
    let bytes = bytes_enough at s (λ i. omega (arith, c.type_inv.s i)) in
    let small = bytes_of letters (each_byte 7 0 c.args.letters (λ i. search rules)) in
    rw (slice_known 7 c.args.letters (omega arith))
    (cc (flag_word letters (enough at s) c.args.last at small (omega arith) bytes))
