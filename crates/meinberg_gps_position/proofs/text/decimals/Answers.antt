use native.Mathlib.Omega.{arith}
use Prim.Native.Nat.{◌/◌}
use mathlib.Core.Path.{◌≡◌}
use Rattle.decimal.specs.Decimal.{digits}
use Rattle.meinberg_gps_position.proofs.text.decimals.Goals as goal

pub returns : goal.returns
unfolding digits
returns c =
    let n = c.args.n in
    let hundreds : n / 10 / 10 ≡ n / 100 = omega arith in
    simp (c.two_digits.ensures, c.two_digits-2.ensures, hundreds)
