use Prim.Native.Nat.{◌<◌}
use native.Mathlib.Omega.{arith}
use Rattle.dcf77.specs.Minute.{minute_fields}
use Rattle.dcf77.proofs.MarkLaws.{binary_split, binary_below, binary_first}
use Rattle.dcf77.proofs.reading.Minute.fields.Goals as goal

pub overflow_add-first : goal.overflow_add-first
overflow_add-first c =
    let first_small : c.eight.result < 256 =
    omega (arith, c.eight.ensures, binary_below _ c.args.self.now.run.is_sure.sure 8 1) in
    omega (arith, first_small)

pub overflow_cast-result : goal.overflow_cast-result
overflow_cast-result c =
    let first_small : c.eight.result < 256 =
    omega (arith, c.eight.ensures, binary_below _ c.args.self.now.run.is_sure.sure 8 1) in
    omega (arith, first_small)

pub returns : goal.returns
unfolding minute_fields
returns c =
    let m = c.args.self.now.run.marks.now in
    rw (binary_split m 8 6 1)
    (simp (
      c.announced_time-time.ensures,
      c.eight.ensures,
      c.eight-2.ensures,
      binary_first m c.args.self.now.run.is_sure.sure 6 2 9,
    ))
