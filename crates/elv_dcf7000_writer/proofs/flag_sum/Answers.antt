use native.Mathlib.Omega.{arith}
use Rattle.gregorian.proofs.DateLaws.{byte_small}
use Rattle.elv_dcf7000.proofs.ElvLaws.{flag_sum_bytes}
use Rattle.elv_dcf7000_writer.proofs.flag_sum.Goals as goal

pub overflow_mul-result : goal.overflow_mul-result
overflow_mul-result c = omega (arith, byte_small c.args.change)

pub overflow_add-result : goal.overflow_add-result
overflow_add-result c = omega (arith, byte_small c.args.summer, byte_small c.args.change)

pub overflow_mul-result-2 : goal.overflow_mul-result-2
overflow_mul-result-2 c = omega (arith, byte_small c.args.unsynchronised)

pub overflow_add-result-2 : goal.overflow_add-result-2
overflow_add-result-2 c =
    omega (arith, byte_small c.args.summer, byte_small c.args.change, byte_small c.args.unsynchronised)

pub returns : goal.returns
returns c =
    rw (c.from-3.ensures, c.from-2.ensures, c.from.ensures)
    (flag_sum_bytes c.args.summer c.args.change c.args.unsynchronised)
