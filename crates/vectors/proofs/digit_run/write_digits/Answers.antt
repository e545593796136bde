-- Each way out is a case of what writing answers.
use Rattle.std.proofs.Common.{arith}
use Rattle.vectors.proofs.WriteLaws.{write_unwritable, write_no_room, write_room}
use Rattle.vectors.proofs.digit_run.write_digits.Goals as goal

pub returns-then-count-gt19 : goal.returns-then-count-gt19
returns-then-count-gt19 c =
    write_unwritable c.args.number c.args.count c.args.out.now (λ w. omega arith)

pub returns-then-pow-number : goal.returns-then-pow-number
returns-then-pow-number c =
    write_unwritable c.args.number c.args.count c.args.out.now (λ w. omega arith)

pub returns-then-out-count : goal.returns-then-out-count
returns-then-out-count c =
    write_no_room c.args.number c.args.count c.args.out.now (omega arith, omega arith) c.if-out-count.true

pub returns : goal.returns
returns c =
    rw c.fill_digits.ensures
    (write_room c.args.number c.args.count c.args.out.now (omega arith, omega arith) c.if-out-count.false)
