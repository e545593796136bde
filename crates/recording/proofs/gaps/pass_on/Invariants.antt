-- The loop goes up within the marks, and the first gap from where it stands on is the one from the place on.
use Prim.Native.Nat.{◌-◌, ◌≤◌}
use mathlib.Core.Path.{◌≡◌}
use lib.ListN.{length, drop}
use Rattle.recording.specs.Gaps.{first_gap}
use Rattle.recording.proofs.gaps.pass_on.Given as goal

abbrev pub invariant-loop-i : goal.invariant-loop-i
invariant-loop-i l =
    record {
      within : l.place ≤ length l.marks → l.i ≤ length l.marks;
      same : first_gap (drop l.i l.marks) l.i ≡ first_gap (drop l.place l.marks) l.place;
    }

abbrev pub decreases-loop-i : goal.decreases-loop-i
decreases-loop-i l = length l.marks - l.i
