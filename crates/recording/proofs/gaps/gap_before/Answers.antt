use native.Mathlib.Omega.{arith}
use mathlib.Core.Path.{◌∙◌}
use Rattle.recording.proofs.GapLaws.{last_before}
use Rattle.recording.proofs.gaps.gap_before.Goals as goal

pub returns : goal.returns
returns c =
    last_before _ _ _ (omega (arith, c.pass_back-end.ensures.0)) c.last_gap.ensures ∙ c.pass_back-end.ensures.1
