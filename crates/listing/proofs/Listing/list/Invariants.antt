-- The loop's invariant: the text of the bytes before i stands at the front of the buffer, and the listing goes on from
-- there. The measure is what is left of the slice.
use Rattle.std.proofs.Common.{◌-◌, length}
use Rattle.listing.proofs.SoFarLaws.{ListedSoFar}
use Rattle.listing.proofs.Listing.list.Given as goal

abbrev pub invariant-loop-i : goal.invariant-loop-i
invariant-loop-i l = ListedSoFar l.initial.listing l.s l.initial.out l.i l.at l.listing l.out

abbrev pub decreases-loop-i : goal.decreases-loop-i
decreases-loop-i l = length l.s - l.i
