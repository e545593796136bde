use Rattle.std.proofs.Common.{sym, ◌∙◌, arith}
use Rattle.decimal.proofs.DecimalLaws.{digit_range}
use Rattle.vectors.proofs.ReadLaws.{read_long, read_offence, read_number}
use Rattle.vectors.proofs.ReadLaws.{passed_none, passed_small, passed_all, passed_other, passed_digit}
use Rattle.vectors.proofs.digit_run.read_digits.Goals as goal

pub returns-then-s-gt19 : goal.returns-then-s-gt19
returns-then-s-gt19 c = read_long _ c.if-s-gt19.true

pub loop-i-init : goal.loop-i-init
loop-i-init c = passed_none c.args.s.now

pub returns-then-not-is_digit : goal.returns-then-not-is_digit
returns-then-not-is_digit c =
    let o = sym c.is_digit.ensures ∙ c.if-not-is_digit.true in
    read_offence _ c.if-s-gt19.false (passed_other c.loop-i.invariant c.loop-i-test.true o) c.loop-i-test.true

pub overflow_sub-b : goal.overflow_sub-b
overflow_sub-b c = (digit_range _ (sym c.is_digit.ensures ∙ c.if-not-is_digit.false)).0

pub overflow_mul-number : goal.overflow_mul-number
overflow_mul-number c =
    let d = sym c.is_digit.ensures ∙ c.if-not-is_digit.false in
    let p = passed_digit c.loop-i.invariant c.loop-i-test.true d in
    omega (arith, passed_small p (omega arith))

pub overflow_add-number : goal.overflow_add-number
overflow_add-number c =
    let d = sym c.is_digit.ensures ∙ c.if-not-is_digit.false in
    let p = passed_digit c.loop-i.invariant c.loop-i-test.true d in
    let h = c.from.ensures in
    omega (arith, passed_small p (omega arith), h)

pub loop-i-preserved : goal.loop-i-preserved
loop-i-preserved c =
    let d = sym c.is_digit.ensures ∙ c.if-not-is_digit.false in
    let h = c.from.ensures in
    rw h (passed_digit c.loop-i.invariant c.loop-i-test.true d)

pub returns : goal.returns
returns c =
    read_number (passed_all c.loop-i.invariant c.if-s-gt19.false c.loop-i-test.false)
