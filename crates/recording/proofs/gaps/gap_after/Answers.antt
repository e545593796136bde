use mathlib.Core.Path.{ap, ◌∙◌}
use Rattle.recording.specs.Gaps.{gap_of}
use Rattle.recording.proofs.GapLaws.{none_after, some_after}
use Rattle.recording.proofs.gaps.gap_after.Goals as goal

pub returns-in_err-found : goal.returns-in_err-found
returns-in_err-found c =
    ap gap_of c.from_residual.ensures ∙ none_after _ _ _ c.pass_on-start.ensures.same c.in_err-found.ensures

pub returns : goal.returns
returns c =
    let f = c.in_ok-found.ensures in
    some_after _ _ _ c.pass_on-start.ensures.same _ f.1 f.2
