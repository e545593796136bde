-- The loop's invariant: what comes before `rest` is kept, inside a string, with no event. The measure is what is left of
-- the slice.
use Prim.Native.Nat.{◌≤◌}
use mathlib.Core.Path.{◌≡◌}
use lib.ListN.{length}
use Rattle.framing.specs.declared.Mode.TheVariants.{Inside}
use Rattle.framing.specs.Run.{Taken}
use Rattle.framing.proofs.Framer.keep.Given as goal

abbrev pub invariant-loop-b : goal.invariant-loop-b
invariant-loop-b l = Taken l.fn.self l.s l.self l.rest × ((l.self.mode ≡ Inside) × (l.self.count ≤ 66))

abbrev pub decreases-loop-b : goal.decreases-loop-b
decreases-loop-b l = length l.rest
