-- The places before where the loop stands have the rule's numbers, all others are as lent, and the gap that is kept is
-- the nearest one before.
use Rattle.recording.specs.Gaps.{gap_of}
use Rattle.recording.proofs.FillLaws.{Filled}
use Rattle.recording.proofs.numbers.fill.Given as goal

abbrev pub invariant-loop-i : goal.invariant-loop-i
invariant-loop-i l = Filled l.marks l.fn.outcomes l.outcomes (gap_of l.last) l.i
