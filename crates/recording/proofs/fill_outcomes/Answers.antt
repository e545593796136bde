use mathlib.Core.Path.{ap, ◌∙◌}
use Rattle.clock_time.specs.Errors.{refused}
use Rattle.dcf77.proofs.CheckLaws.{refused_by}
use Rattle.recording.proofs.RecordingLaws.{check_fails, check_passes, unfit_false, fill_unfit, fill_done}
use Rattle.recording.proofs.fill_outcomes.Goals as goal

pub returns-in_err-check_fit : goal.returns-in_err-check_fit
returns-in_err-check_fit c =
    let h = check_fails _ _ _ c.in_err-check_fit.ensures in
    rw (refused_by _ _ c.from_residual.ensures.1 ∙ ap refused h.1) (fill_unfit _ _ h.0)

pub fill-requires : goal.fill-requires
fill-requires c = (unfit_false _ _ (check_passes _ _ c.in_ok-check_fit.ensures)).0

pub returns : goal.returns
returns c = fill_done _ _ _ (check_passes _ _ c.in_ok-check_fit.ensures) c.fill.ensures
