-- Numbers made of a byte and what stands above it.
use Prim.Native.Nat.{ℕ, zero, suc, ◌+◌, ◌*◌, ◌<◌}
use native.Mathlib.Nat.{add-suc}
use native.Mathlib.Numerals.{add-one}
use native.Mathlib.Omega.{arith}
use mathlib.Core.Path.{◌≡◌, refl, sym, ap, ◌∙◌}
use mathlib.Core.Bool.{◌&&◌}
use mathlib.Core.List.{List}
use lib.Dec.{eqb}
use lib.ListN.{get_or}
use lib.Bits.{bit_and, and_block, and_le_r}
use borrow.Author.Tests.{ne_eqb}

zero_digits : (x r : ℕ) → eqb (x * 256 + r) 0 ≡ (eqb r 0 && eqb x 0)
zero_digits zero zero = refl
zero_digits (suc x) zero = rw (ne_eqb (suc x) 0 (λ z. omega arith)) (ne_eqb (suc x * 256 + 0) 0 (λ z. omega arith))
zero_digits x (suc r) = rw (ne_eqb (suc r) 0 (λ z. omega arith)) (ne_eqb (x * 256 + suc r) 0 (λ z. omega arith))

-- no bits in common: neither in the lowest bytes nor in the others
pub zero_block : (x y r q : ℕ) → r < 256 → q < 256
    → eqb (bit_and (x * 256 + r) (y * 256 + q)) 0 ≡ (eqb (bit_and r q) 0 && eqb (bit_and x y) 0)
zero_block x y r q hr hq =
    ap (λ (n : ℕ). eqb n 0) (and_block 8 x y r q hr hq) ∙ zero_digits (bit_and x y) (bit_and r q)

-- all bits of a number are set: those of its lowest byte, and the others
pub set_block : (x y r q : ℕ) → r < 256 → q < 256 → bit_and (x * 256 + r) (y * 256 + q) ≡ y * 256 + q
    → (bit_and r q ≡ q) × (bit_and x y ≡ y)
set_block x y r q hr hq h =
    let e = sym (and_block 8 x y r q hr hq) ∙ h in
    let low = and_le_r r q in
    (omega arith, omega arith)

-- k bytes of a list as one number
abbrev pub word : ℕ → ℕ → List ℕ → ℕ
word zero at s = 0
word (suc k) at s = word k (suc at) s * 256 + get_or s at 0

-- what `join_eight` makes of eight bytes of a list
pub word_eight : (s : List ℕ) (at : ℕ)
    → ((((((get_or s (at + 7) 0 * 256 + get_or s (at + 6) 0) * 256 + get_or s (at + 5) 0) * 256
    + get_or s (at + 4) 0) * 256 + get_or s (at + 3) 0) * 256 + get_or s (at + 2) 0) * 256
    + get_or s (at + 1) 0) * 256 + get_or s at 0 ≡ word 8 at s
word_eight s at =
    rw (add-suc at 6, add-suc at 5, add-suc at 4, add-suc at 3, add-suc at 2, add-suc at 1, add-one at) (omega arith)
