use native.Mathlib.Omega.{arith}
use mathlib.Core.Path.{◌≡◌, ◌∙◌}
use lib.ListN.{length-set}
use Rattle.dcf77.proofs.SpellLaws.{bits_more, bits_all}
use Rattle.dcf77_writer.proofs.writing.put_bits.Goals as goal

pub loop-mark-preserved : goal.loop-mark-preserved
loop-mark-preserved c =
    let l = c.loop-mark in
    let more = bits_more l.mark-items l.rest l.mark-index c.loop-mark-test.true l.invariant.0 in
    (simp length-set l.invariant.0, more ∙ l.invariant.1)

pub returns : goal.returns
returns c =
    let l = c.loop-mark in
    let ended : l.mark-index ≡ 60 = omega arith in
    bits_all l.mark-items l.rest l.invariant.0 ∙ rw ended at l.invariant.1
