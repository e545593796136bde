-- The listing is the one after the bytes passed, and each turn passes some, as the buffer has room for any line.
use lib.ListN.{length}
use Rattle.list_times.proofs.ProgressLaws.{Passed}
use Rattle.list_times.proofs.write_lines.Given as goal

abbrev pub invariant-loop-rest : goal.invariant-loop-rest
invariant-loop-rest l = Passed l.fn.listing l.s l.listing l.rest

abbrev pub decreases-loop-rest : goal.decreases-loop-rest
decreases-loop-rest l = length l.rest
