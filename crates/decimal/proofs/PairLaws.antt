-- Laws of two digits as two bytes side by side in one number.
use Prim.Native.Nat.{ℕ, ◌+◌, ◌-◌, ◌*◌, ◌/◌, ◌%◌}
use native.Mathlib.Omega.{arith}
use mathlib.Core.Path.{◌≡◌}
use lib.Dec.{lit<}
use lib.Arith.{mod-mul}

-- 256 for each one of the number is 2,560 for each ten, of which one is left
pair_sum : (n : ℕ) → 256 * (n % 100) - 2559 * (n % 100 / 10) + 12336
    ≡ 48 + n / 10 % 10 + 256 * (48 + n % 10)
pair_sum n =
    let both : n % 100 ≡ n / 10 % 10 * 10 + n % 10 = mod-mul n {m = 10} {c = 10} (lit< tt) (lit< tt) in
    omega (arith, both)

-- the bytes of the code's sum are the digits of the number
pub pair_bytes : (n : ℕ) → let sum = 256 * (n % 100) - 2559 * (n % 100 / 10) + 12336 in
    (sum % 256 ≡ 48 + n / 10 % 10) × (sum / 256 % 256 ≡ 48 + n % 10)
pair_bytes n = (omega (arith, pair_sum n), omega (arith, pair_sum n))
