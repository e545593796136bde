-- The loop goes down, and the nearest gap before where it stands is the one before the place.
use Prim.Native.Nat.{◌≤◌}
use mathlib.Core.Path.{◌≡◌}
use Rattle.recording.specs.Gaps.{gap_before}
use Rattle.recording.proofs.gaps.pass_back.Given as goal

abbrev pub invariant-loop-i : goal.invariant-loop-i
invariant-loop-i l = (l.i ≤ l.place) × (gap_before l.marks l.i ≡ gap_before l.marks l.place)

abbrev pub decreases-loop-i : goal.decreases-loop-i
decreases-loop-i l = l.i
