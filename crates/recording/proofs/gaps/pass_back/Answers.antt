use borrow.Author.Rules.{rules}
use native.Mathlib.Omega.{arith}
use mathlib.Core.Path.{sym, ◌∙◌}
use Rattle.recording.proofs.GapLaws.{before_eight}
use Rattle.recording.proofs.gaps.pass_back.Goals as goal

pub loop-i-preserved : goal.loop-i-preserved
loop-i-preserved c =
    let l = c.loop-i in
    let s = sym c.are_eight_sure.ensures ∙ c.if-not-are_eight_sure.false in
    (search rules, before_eight _ _ s _ (omega arith) ∙ l.invariant.1)
