-- The listing is the one after some bytes from the start.
use Rattle.list_times.specs.Progress.{Reaches}
use Rattle.list_times.proofs.list_input.Given as goal

abbrev pub invariant-loop : goal.invariant-loop
invariant-loop g l = Reaches l.initial.listing l.listing
