-- Laws of the numbers that a field may hold.
use Prim.Native.Nat.{ℕ, ◌≤◌}
use native.Mathlib.Omega.{arith}
use mathlib.Core.Path.{◌≡◌}
use mathlib.Core.Bool.{true}
use lib.IntN.{ℤ, pos, negsuc, nat_abs}
use borrow.Author.Tests.{le-leb}
use Rattle.clock_time.specs.FieldRanges.{range, within}

-- a number is within the range of its magnitude
pub magnitude_within : (m : ℕ) (z : ℤ) → nat_abs z ≤ m → within (range (negsuc m) (pos m)) z ≡ true
magnitude_within m (pos n) h = le-leb n m h
magnitude_within m (negsuc n) h = simp (le-leb n m (omega arith))
