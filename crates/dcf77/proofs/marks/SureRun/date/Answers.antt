use native.Mathlib.Omega.{arith}
use Rattle.dcf77.proofs.MarkLaws.{binary_split, binary_below, binary_rest}
use Rattle.dcf77.proofs.marks.SureRun.date.Goals as goal

pub overflow_mul-result : goal.overflow_mul-result
overflow_mul-result c =
    let below = binary_below _ c.args.self.now.is_sure.sure 8 in
    omega (arith, c.eight.ensures, below 51)

pub overflow_add-result : goal.overflow_add-result
overflow_add-result c =
    let below = binary_below _ c.args.self.now.is_sure.sure 8 in
    omega (arith, c.eight-middle.ensures, c.eight.ensures, below 44, below 51)

pub overflow_mul-result-2 : goal.overflow_mul-result-2
overflow_mul-result-2 c =
    let below = binary_below _ c.args.self.now.is_sure.sure 8 in
    omega (arith, c.eight-middle.ensures, c.eight.ensures, below 44, below 51)

pub overflow_add-result-2 : goal.overflow_add-result-2
overflow_add-result-2 c =
    let below = binary_below _ c.args.self.now.is_sure.sure 8 in
    omega (arith, c.eight-low.ensures, c.eight-middle.ensures, c.eight.ensures, below 36, below 44, below 51)

pub returns : goal.returns
returns c =
    let m = c.args.self.now.marks.now in
    rw (binary_split m 8 15 36, binary_split m 8 7 44, ← binary_rest m c.args.self.now.is_sure.sure 1 7 51)
    (simp (c.eight-low.ensures, c.eight-middle.ensures, c.eight.ensures))
