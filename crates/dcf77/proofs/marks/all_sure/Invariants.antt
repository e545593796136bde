-- The marks before the loop's place are sure, and the last eight.
use Prim.Native.Nat.{◌*◌, ◌-◌}
use mathlib.Core.Path.{◌≡◌}
use mathlib.Core.Bool.{◌&&◌}
use lib.ListN.{length}
use Rattle.dcf77.specs.Marks.{sure_from}
use Rattle.dcf77.proofs.marks.all_sure.Given as goal

abbrev pub invariant-loop-i : goal.invariant-loop-i
invariant-loop-i l = l.sure ≡ (sure_from 8 (length l.m - 8) l.m && sure_from (8 * l.i) 0 l.m)
