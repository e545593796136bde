-- The invariant: `i` digits of `rest`, and then what stands from `i` on, are what is to be left.
use Rattle.std.proofs.Common.{◌≡◌, ◌++◌, drop}
use Rattle.decimal.specs.Decimal.{digits}
use Rattle.vectors.proofs.digit_run.fill_digits.Given as goal

abbrev pub invariant-loop-i : goal.invariant-loop-i
invariant-loop-i l = digits l.i l.rest ++ drop l.i l.out ≡ digits l.count l.number ++ drop l.count l.initial.out
