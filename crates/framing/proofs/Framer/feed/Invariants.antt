-- The loop's invariant: what comes before `rest` is taken with no event. The measure is what is left of the slice.
use lib.ListN.{length}
use Rattle.framing.specs.Run.{Taken}
use Rattle.framing.proofs.Framer.feed.Given as goal

abbrev pub invariant-loop-b : goal.invariant-loop-b
invariant-loop-b l = Taken l.fn.self l.s l.self l.rest

abbrev pub decreases-loop-b : goal.decreases-loop-b
decreases-loop-b l = length l.rest
