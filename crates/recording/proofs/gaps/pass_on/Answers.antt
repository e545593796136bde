use borrow.Author.Rules.{rules}
use mathlib.Core.Path.{sym, ◌∙◌}
use Rattle.dcf77.proofs.MarkLaws.{eight_small}
use Rattle.recording.proofs.GapLaws.{after_eight}
use Rattle.recording.proofs.gaps.pass_on.Goals as goal

pub overflow_add-i : goal.overflow_add-i
overflow_add-i c =
    let h = eight_small _ _ (sym c.are_eight_sure.ensures ∙ c.loop-i-test.true) in
    search rules

pub loop-i-smaller : goal.loop-i-smaller
loop-i-smaller c =
    let h = eight_small _ _ (sym c.are_eight_sure.ensures ∙ c.loop-i-test.true) in
    search rules

pub loop-i-preserved : goal.loop-i-preserved
loop-i-preserved c =
    let s = sym c.are_eight_sure.ensures ∙ c.loop-i-test.true in
    record {
      within = λ h. (eight_small _ _ s).0;
      same = sym (after_eight _ _ s) ∙ c.loop-i.invariant.same;
    }
