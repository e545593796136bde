-- The loop's invariant: what comes before `rest` is kept, inside a string, with no event. The measure is what is left of
-- the slice.
use Prim.Native.Nat.{◌≤◌}
use mathlib.Core.Path.{◌≡◌}
use lib.ListN.{length}
use Rattle.framing.specs.declared.Mode.TheVariants.{Inside}
use Rattle.framing.specs.Run.{Taken}
use Rattle.framing.proofs.Framer.keep_eights.Given as goal

abbrev pub invariant-loop-eight : goal.invariant-loop-eight
invariant-loop-eight l = Taken l.fn.self l.s l.self l.rest × ((l.self.mode ≡ Inside) × (l.self.count ≤ 66))

abbrev pub decreases-loop-eight : goal.decreases-loop-eight
decreases-loop-eight l = length l.rest
