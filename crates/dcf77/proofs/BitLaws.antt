-- Marks and the bits of their numbers, over any number of marks.
use Prim.Native.Nat.{ℕ, zero, suc, ◌+◌, ◌*◌, ◌/◌, ◌%◌, ◌^◌, ◌≤◌, ◌<◌}
use native.Mathlib.Nat.{add-zero, add-suc, suc-add, add_comm, pow-succ'}
use native.Mathlib.Numerals.{add-one}
use native.Mathlib.Omega.{arith}
use mathlib.Core.Path.{◌≡◌, refl, ap}
use mathlib.Core.List.{List, ◌∷◌}
use lib.ListN.{get_or}
use Rattle.clock_time.specs.Lists.{sum, slice}
use Rattle.clock_time.proofs.ListsLaws.{slice_slice}
use Rattle.gregorian.specs.Date.{full_year, first_year}
use Rattle.gregorian.proofs.DateLaws.{year_sum}
use Rattle.dcf77.specs.Marks.{binary, two_digits, longs, bits}
use Rattle.dcf77.specs.Minute.{with_parity}
use Rattle.dcf77.proofs.MarkLaws.{low_part, high_part}

longs_last : (m : List ℕ) (k at : ℕ) → longs (suc k) at m ≡ sum (slice at k m) + get_or m (at + k) 0
unfolding longs
longs_last m zero at = rw (add-zero at) (omega arith)
longs_last m (suc k) at = rw (add-suc, ← suc-add) (omega (arith, longs_last m k (suc at)))

module _ (m : List ℕ) (small : (k : ℕ) → get_or m k 0 ≤ 1) where
  -- the bits of the number of marks are the marks
  pub bits_binary : (k at : ℕ) → bits k (binary k at m) ≡ slice at k m
  unfolding bits binary
  bits_binary zero at = refl
  bits_binary (suc k) at =
      let h : get_or m at 0 < 2 = omega (arith, small at) in
      let n = binary k (suc at) m in
      rw (low_part n h, high_part n h, bits_binary k (suc at))

  -- if the whole is even, the last mark is the sum of the others modulo 2
  pub parity_mark : (k at : ℕ) → longs (suc k) at m % 2 ≡ 0 → sum (slice at k m) % 2 ≡ get_or m (at + k) 0
  parity_mark k at even =
      let h : (sum (slice at k m) + get_or m (at + k) 0) % 2 ≡ 0 = rw (longs_last m k at) at even in
      omega (arith, small (at + k))

  -- the marks before the last, and their parity
  pub parity_last : (k at : ℕ) → longs (k + 1) at m % 2 ≡ 0 → with_parity (slice at k m) ≡ slice at (k + 1) m
  parity_last k at even =
      rw (parity_mark k at (rw (add-one k) at even), add_comm at k) (slice_slice m k 1 at)

-- a mark that is the sum of those before it modulo 2 makes the whole even
pub parity_even : (m : List ℕ) (k at : ℕ) → get_or m (at + k) 0 ≡ sum (slice at k m) % 2 → longs (suc k) at m % 2 ≡ 0
parity_even m k at last = rw (longs_last m k at, last) (omega arith)

later_binary : (k at b : ℕ) (m : List ℕ) → binary k (suc at) (b ∷ m) ≡ binary k at m
unfolding binary
later_binary zero at b m = refl
later_binary (suc k) at b m = ap (λ (n : ℕ). get_or m at 0 + 2 * n) (later_binary k (suc at) b m)

-- the number of a number's bits
pub binary_bits : (k n : ℕ) → n < 2 ^ k → binary k 0 (bits k n) ≡ n
unfolding binary bits
binary_bits zero n h = omega arith
binary_bits (suc k) n h =
    let below : n < 2 * 2 ^ k = rw (pow-succ' 2 k) at h in
    rw (later_binary k 0 (n % 2) (bits k (n / 2)), binary_bits k (n / 2) (omega arith)) (omega arith)

-- ---- a number of two digits
module _ (m : List ℕ) (at tens : ℕ) (digit : binary 4 at m ≤ 9) where
  pub ones_digit : two_digits at tens m % 10 ≡ binary 4 at m
  unfolding two_digits
  ones_digit = omega arith

  pub tens_digit : two_digits at tens m / 10 ≡ binary tens (4 + at) m
  unfolding two_digits
  tens_digit = omega arith

pub two_digits_lem : (m : List ℕ) (at tens n : ℕ) → binary 4 at m ≡ n % 10 → binary tens (4 + at) m ≡ n / 10
    → two_digits at tens m ≡ n
unfolding two_digits
two_digits_lem m at tens n low high = rw (low, high) (omega arith)

pub year_digits : (n : ℕ) → n < 100 → (full_year first_year n % 10 ≡ n % 10) × (full_year first_year n / 10 % 10 ≡ n / 10)
year_digits n h = rw (year_sum n) (omega arith, omega arith)
