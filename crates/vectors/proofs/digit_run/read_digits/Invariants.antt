-- The invariant: the first `i` bytes are digits, which stand for `number`.
use Rattle.vectors.proofs.ReadLaws.{Passed}
use Rattle.vectors.proofs.digit_run.read_digits.Given as goal

abbrev pub invariant-loop-i : goal.invariant-loop-i
invariant-loop-i l = Passed l.s l.i l.number
