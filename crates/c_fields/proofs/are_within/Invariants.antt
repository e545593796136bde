-- The invariant: all numbers are in their ranges exactly if those passed were and those left are.
use Rattle.c_fields.proofs.RangeLaws.{Left}
use Rattle.c_fields.proofs.are_within.Given as goal

abbrev pub invariant-loop-place : goal.invariant-loop-place
invariant-loop-place l = Left l.places l.z l.all l.place-iterator.a.rest.now l.place-iterator.b.rest.now
