use mathlib.Core.Path.{◌∙◌}
use borrow.Author.Tests.{lt-ltb, le-ltb}
use Rattle.recording.specs.Recording.{outcome_at}
use Rattle.dcf77.proofs.CheckLaws.{refused_by}
use Rattle.recording.proofs.RecordingLaws.{check_fails, check_passes}
use Rattle.recording.proofs.outcome_at.Goals as goal

pub returns-then-marks-gt-LONGEST : goal.returns-then-marks-gt-LONGEST
unfolding outcome_at
returns-then-marks-gt-LONGEST c = simp (lt-ltb _ _ c.if-marks-gt-LONGEST.true)

pub returns-in_err-check_place : goal.returns-in_err-check_place
unfolding outcome_at
returns-in_err-check_place c =
    let h = check_fails _ _ _ c.in_err-check_place.ensures in
    refused_by _ _ c.from_residual.ensures.1 ∙ simp (h.1, h.0, le-ltb _ _ c.if-marks-gt-LONGEST.false)

pub returns : goal.returns
unfolding outcome_at
returns c =
    let h = check_passes _ _ c.in_ok-check_place.ensures in
    simp (le-ltb _ _ c.if-marks-gt-LONGEST.false, h, c.number_at.ensures)
