use native.Mathlib.Omega.{arith}
use mathlib.Core.Path.{sym, ap, ◌∙◌}
use lib.ListN.{length}
use lib.Seq.{length-take-le}
use Rattle.gregorian.proofs.DateLaws.{byte_small}
use Rattle.dcf77.proofs.SixtyMarksLaws.{length_sixty_marks, take_sixty_marks}
use Rattle.dcf77_writer.proofs.write_minute.Goals as goal

pub overflow_add-count : goal.overflow_add-count
overflow_add-count c = omega (arith, byte_small c.args.a.detail.sixty)

pub slice_bounds-marks-end : goal.slice_bounds-marks-end
slice_bounds-marks-end c =
    let long = ap length c.sixty_marks-marks.ensures ∙ length_sixty_marks _ in
    omega (arith, byte_small c.args.a.detail.sixty, long)

pub slice_bounds-write_run-end : goal.slice_bounds-write_run-end
slice_bounds-write_run-end c =
    let long = ap length c.sixty_marks-marks.ensures ∙ length_sixty_marks _ in
    sym (length-take-le _ _ (omega (arith, byte_small c.args.a.detail.sixty, long)))

pub write_run-requires : goal.write_run-requires
write_run-requires c = rw c.sixty_marks-marks.ensures (take_sixty_marks _)
