-- Laws of the exclusive or, of numbers and of their bits.
use Rattle.std.proofs.Common.{◌≡◌, ℕ, zero, suc, ◌+◌, ◌*◌, ◌/◌, ◌%◌, ◌^◌, ◌<◌, sym, refl, ap, ◌∙◌, ap₂, mul_comm, pow-suc, arith, lit<, pow_pos}
use native.Mathlib.Nat.{zero-div, div-div-eq-div-mul}
use lib.Arith.{bin_ind, mod-mul}
use lib.Bits.{differ, bit_xor, xor_comm, xor_shr, xor_step}
use Rattle.trimble_sv6.specs.Says.{bit_at}

-- bits differ if their sum is odd
differ_sum : (x y : ℕ) → x < 2 → y < 2 → differ x y ≡ (x + y) % 2
differ_sum zero y h k = omega arith
differ_sum (suc zero) zero h k = refl
differ_sum (suc zero) (suc zero) h k = refl
differ_sum (suc zero) (suc (suc y)) h k = absurd (omega arith)
differ_sum (suc (suc x)) y h k = absurd (omega arith)

-- the lowest bit, and the others
module _ (a b : ℕ) where
  lowest : differ (a % 2) (b % 2) ≡ (a % 2 + b % 2) % 2
  lowest = differ_sum (a % 2) (b % 2) (omega arith) (omega arith)

  xor_low : bit_xor a b % 2 ≡ (a % 2 + b % 2) % 2
  xor_low = omega (arith, xor_step a b, lowest)

  xor_half : bit_xor a b / 2 ≡ bit_xor (a / 2) (b / 2)
  xor_half = omega (arith, xor_step a b, lowest)

pub xor_assoc : (a b c : ℕ) → bit_xor (bit_xor a b) c ≡ bit_xor a (bit_xor b c)
xor_assoc a =
    bin_ind (λ (a : ℕ). (b c : ℕ) → bit_xor (bit_xor a b) c ≡ bit_xor a (bit_xor b c)) (λ b c. refl) step a
  where
    odd : (x y z : ℕ) → ((x + y) % 2 + z) % 2 ≡ (x + (y + z) % 2) % 2
    odd x y z = omega arith

    step : (a : ℕ) → ((b c : ℕ) → bit_xor (bit_xor (a / 2) b) c ≡ bit_xor (a / 2) (bit_xor b c)) → (b c : ℕ)
        → bit_xor (bit_xor a b) c ≡ bit_xor a (bit_xor b c)
    step a ih b c =
        xor_step (bit_xor a b) c
        ∙ ap₂ (λ (x y : ℕ). x * 2 + y)
        (rw (xor_half a b) (ih (b / 2) (c / 2)) ∙ ap (bit_xor (a / 2)) (sym (xor_half b c)))
        (rw (lowest (bit_xor a b) c, lowest a (bit_xor b c), xor_low a b, xor_low b c) (odd (a % 2) (b % 2) (c % 2)))
        ∙ sym (xor_step a (bit_xor b c))

-- of two pairs, in another order
pub xor_exchange : (a b c d : ℕ) → bit_xor (bit_xor a b) (bit_xor c d) ≡ bit_xor (bit_xor a c) (bit_xor b d)
xor_exchange a b c d =
    xor_assoc a b (bit_xor c d)
    ∙ ap (bit_xor a) (sym (xor_assoc b c d) ∙ ap (λ (x : ℕ). bit_xor x d) (xor_comm b c) ∙ xor_assoc c b d)
    ∙ sym (xor_assoc a c (bit_xor b d))

-- ---- bits
-- a bit of it is set if just one of the two is
pub bit_xor_lem : (k a b : ℕ) → bit_at k (bit_xor a b) ≡ (bit_at k a + bit_at k b) % 2
bit_xor_lem k a b =
    ap (λ (x : ℕ). x % 2) (xor_shr a b k)
    ∙ xor_low (a / 2 ^ k) (b / 2 ^ k)

pub bit_zero : (k : ℕ) → bit_at k 0 ≡ 0
bit_zero k = rw (zero-div (2 ^ k))

-- the bits but the lowest are those of the half
bit_half : (k n : ℕ) → bit_at (suc k) n ≡ bit_at k (n / 2)
bit_half k n =
    ap (λ (x : ℕ). n / x % 2) (pow-suc 2 k ∙ mul_comm (2 ^ k) 2)
    ∙ ap (λ (x : ℕ). x % 2) (sym (div-div-eq-div-mul n 2 (2 ^ k)))

-- the lowest m bits of a number are those of its rest
pub low_bits : (m k n : ℕ) → k < m → bit_at k (n % 2 ^ m) ≡ bit_at k n
low_bits zero k n h = absurd (omega arith)
low_bits (suc m) zero n h =
    let e = mod-mul n {m = 2 ^ m} {c = 2} (pow_pos m) (lit< tt) in
    rw (pow-suc 2 m) (omega (arith, e))
low_bits (suc m) (suc k) n h =
    let e = mod-mul n {m = 2 ^ m} {c = 2} (pow_pos m) (lit< tt) in
    let half : n % (2 ^ m * 2) / 2 ≡ n / 2 % 2 ^ m = omega (arith, e) in
    bit_half k (n % 2 ^ suc m) ∙ rw (pow-suc 2 m, half) (low_bits m k (n / 2) (omega arith)) ∙ sym (bit_half k n)

-- two numbers with the same bits are the same
pub same_bits : (m a b : ℕ) → a < 2 ^ m → b < 2 ^ m → ((k : ℕ) → k < m → bit_at k a ≡ bit_at k b) → a ≡ b
same_bits zero a b ha hb h = omega arith
same_bits (suc m) a b ha hb h =
    let e = pow-suc 2 m in
    let halves = same_bits m (a / 2) (b / 2) (omega (arith, e, ha)) (omega (arith, e, hb))
    (λ k j. sym (bit_half k a) ∙ h (suc k) (omega arith) ∙ bit_half k b) in
    omega (arith, halves, h 0 (omega arith))
