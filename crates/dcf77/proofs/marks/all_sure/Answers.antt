use native.Mathlib.Omega.{arith}
use mathlib.Core.Path.{◌≡◌, sym, ◌∙◌}
use mathlib.Core.Bool.{and-true}
use Rattle.dcf77.specs.Marks.{sure_from}
use Rattle.dcf77.proofs.MarkLaws.{eight_more, ends_sure}
use Rattle.dcf77.proofs.marks.all_sure.Goals as goal

pub loop-i-init : goal.loop-i-init
unfolding sure_from
loop-i-init c = c.eight_sure-sure.ensures ∙ sym (and-true _)

pub loop-i-preserved : goal.loop-i-preserved
loop-i-preserved c = rw (c.loop-i.invariant, c.eight_sure-sure-in-loop-i.ensures) (eight_more c.args.m.now c.loop-i.i _)

pub returns : goal.returns
returns c =
    let all : c.loop-i.i ≡ 7 = omega arith in
    rw all at c.loop-i.invariant ∙ ends_sure _ c.requires.0 c.requires.1
