use native.Mathlib.Omega.{arith}
use Prim.Native.Nat.{◌<◌}
use lib.ListN.{length}
use Rattle.recording.proofs.FillLaws.{filled_start, filled_gap, filled_none, filled_end}
use Rattle.recording.proofs.numbers.fill.Goals as goal
use Rattle.recording.proofs.numbers.fill.Goals.{then-marks-i-eq-GAP, else-marks-i-eq-GAP}

pub loop-i-init : goal.loop-i-init
loop-i-init c = filled_start _ _ c.requires

pub loop-i-preserved : goal.loop-i-preserved
loop-i-preserved c =
    let inv = c.loop-i.invariant in
    let h : c.loop-i.i < length c.args.marks.now = omega arith in
    elim c.if-marks-i-eq-GAP.branch [
      | then-marks-i-eq-GAP w ↦
          rw (w.outcomes-is, w.last-is) (filled_gap inv h w.if-marks-i-eq-GAP.true w.number_at_gap.ensures)
      | else-marks-i-eq-GAP w ↦ rw (w.outcomes-is, w.last-is) (filled_none inv h w.if-marks-i-eq-GAP.false)
    ]

pub returns : goal.returns
returns c = filled_end c.loop-i.invariant (omega arith)
