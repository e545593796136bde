use mathlib.Core.Path.{ap, ◌∙◌}
use Rattle.clock_time.specs.Errors.{refused}
use Rattle.dcf77.proofs.CheckLaws.{refused_by}
use Rattle.recording.proofs.RecordingLaws.{check_fails, check_passes, correct_unfit, correct_no_place, correct_no_mark}
use Rattle.recording.proofs.RecordingLaws.{correct_done}
use Rattle.recording.proofs.correct_mark.Goals as goal

pub returns-in_err-check_fit : goal.returns-in_err-check_fit
returns-in_err-check_fit c =
    let h = check_fails _ _ _ c.in_err-check_fit.ensures in
    rw (refused_by _ _ c.from_residual.ensures.1 ∙ ap refused h.1) (correct_unfit _ _ _ _ h.0)

pub returns-in_err-check_place : goal.returns-in_err-check_place
returns-in_err-check_place c =
    let h = check_fails _ _ _ c.in_err-check_place.ensures in
    rw (refused_by _ _ c.from_residual-in_err-check_place.ensures.1 ∙ ap refused h.1)
    (correct_no_place _ _ _ _ (check_passes _ _ c.in_ok-check_fit.ensures) h.0)

pub returns-then-mark-gt-LAST_MARK : goal.returns-then-mark-gt-LAST_MARK
returns-then-mark-gt-LAST_MARK c =
    correct_no_mark _ _ _ _ (check_passes _ _ c.in_ok-check_fit.ensures) (check_passes _ _ c.in_ok-check_place.ensures)
    c.if-mark-gt-LAST_MARK.true

pub returns : goal.returns
returns c =
    let m = c.new.ensures.marks ∙ c.put_mark.ensures in
    rw c.put_mark.ensures
    (correct_done _ _ _ _ _ _ (check_passes _ _ c.in_ok-check_fit.ensures) (check_passes _ _ c.in_ok-check_place.ensures)
    c.if-mark-gt-LAST_MARK.false
    (rw (m, c.new.ensures.place) at c.update.ensures.outcomes)
    (rw (m, c.new.ensures.place) at c.update.ensures.count))
