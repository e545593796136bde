use Rattle.std.proofs.Common.{◌≡◌, ◌≤◌, length, ◌∙◌, arith}
use Rattle.decimal.specs.Decimal.{digits}
use Rattle.vectors.proofs.WriteLaws.{digits_fill}
use Rattle.vectors.proofs.digit_run.fill_digits.Goals as goal

pub loop-i-preserved : goal.loop-i-preserved
loop-i-preserved c =
    let l = c.loop-i in
    let room : l.i ≤ length l.out = omega arith in
    digits_fill l.out l.i l.rest c.loop-i-test.true room ∙ l.invariant

pub returns : goal.returns
unfolding digits
returns c = let e : c.loop-i.i ≡ 0 = omega arith in rw e at c.loop-i.invariant
