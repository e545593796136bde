-- Laws of marks as numbers, over any number of marks.
use Prim.Native.Nat.{ℕ, zero, suc, ◌+◌, ◌-◌, ◌*◌, ◌/◌, ◌%◌, ◌^◌, ◌≤◌, ◌<◌}
use native.Mathlib.Nat.{add-zero, zero-add, add-suc, suc-add, add_comm}
use native.Mathlib.Nat.{mul_comm, mul_assoc, mod-eq_of_lt, pow-suc, pow-succ'}
use native.Mathlib.Decide.{dec_lt, ℕ_discrete}
use native.Mathlib.Numerals.{add-one}
use native.Mathlib.Omega.{arith}
use mathlib.Core.Path.{◌≡◌, refl, sym, ap, ◌∙◌}
use mathlib.Core.Bool.{Bool, true, false, ◌&&◌, and_assoc}
use mathlib.Core.List.{List, [], ◌∷◌}
use lib.Dec.{ltb, leb, eqb, lit<}
use lib.ListN.{length, get_or, get_or-eq_default}
use lib.Bits.{bit_and, and_high, and_zero_l}
use lib.Count.{ones, ones_step}
use lib.Arith.{digits_div, digits_mod}
use borrow.Author.Tests.{leb-true, ltb-true, lt-ltb, le-ltb, lt-leb, le-leb, eq-eqb, ne_eqb}
use Rattle.std.specs.Int.{from_le_bytes, w64}
use Rattle.bits.proofs.ByteLaws.{zero_block, word}
use Rattle.clock_time.proofs.Tests.{both}
use Rattle.clock_time.proofs.ExactLaws.{same_tests}
use Rattle.dcf77.specs.Marks.{all_sure, sure_from, eight_sure, binary, longs}
use Rattle.dcf77.specs.Numbers.{four_bytes}

-- ---- sure marks
pub sure_small : (m : List ℕ) → all_sure m ≡ true → (k : ℕ) → get_or m k 0 ≤ 1
unfolding all_sure
sure_small [] h k = omega arith
sure_small (b ∷ m) h zero = omega (arith, ltb-true b 2 (both (ltb b 2) (all_sure m) h).0)
sure_small (b ∷ m) h (suc k) = sure_small m (both (ltb b 2) (all_sure m) h).1 k

pub small_sure : (m : List ℕ) → ((k : ℕ) → get_or m k 0 ≤ 1) → all_sure m ≡ true
unfolding all_sure
small_sure [] h = refl
small_sure (b ∷ m) h =
    let first : b ≤ 1 = h 0 in
    simp (lt-ltb b 2 (omega arith), small_sure m (λ k. h (suc k)))

-- the bits that no sure mark has, in k bytes
abbrev highs : ℕ → ℕ
highs zero = 0
highs (suc k) = highs k * 256 + 254

sure_byte : (b : ℕ) → b < 256 → eqb (bit_and b 254) 0 ≡ ltb b 2
sure_byte b h = elim (dec_lt b 2) [
  | yes l ↦ let e : bit_and b 254 ≡ 0 = and_high b 7 1 ∙ omega arith in
      simp (eq-eqb (bit_and b 254) 0 e, lt-ltb b 2 l)
  | no l ↦
      let half : b / 2 % 128 ≡ b / 2 = mod-eq_of_lt (omega arith) in
      let e : bit_and b 254 ≡ 0 → ⊥ = λ z.
      let zero : b / 2 % 128 * 2 ≡ 0 = sym (and_high b 7 1) ∙ z in
      omega arith in
      simp (ne_eqb (bit_and b 254) 0 e, le-ltb b 2 (omega arith))
]

module _ (m : List ℕ) (bytes : (i : ℕ) → get_or m i 0 < 256) where
  sure_word : (k at : ℕ) → eqb (bit_and (word k at m) (highs k)) 0 ≡ sure_from k at m
  unfolding sure_from
  sure_word zero at = ap (λ (n : ℕ). eqb n 0) (and_zero_l 0)
  sure_word (suc k) at =
      zero_block (word k (suc at) m) (highs k) (get_or m at 0) 254 (bytes at) (lit< tt)
      ∙ rw (sure_byte (get_or m at 0) (bytes at), sure_word k (suc at))

  pub eight_sure_lem : (at n : ℕ) → n ≡ word 8 at m → eqb (bit_and n 18374403900871474942) 0 ≡ sure_from 8 at m
  eight_sure_lem at n e = rw e (sure_word 8 at)

-- eight bytes of a list, the lowest first
pub word_bytes : (m : List ℕ) (at : ℕ)
    → from_le_bytes w64
    (get_or m at 0 ∷ get_or m (at + 1) 0 ∷ get_or m (at + 2) 0 ∷ get_or m (at + 3) 0 ∷ get_or m (at + 4) 0
    ∷ get_or m (at + 5) 0 ∷ get_or m (at + 6) 0 ∷ get_or m (at + 7) 0 ∷ [])
    ≡ word 8 at m
word_bytes m at =
    rw (add-suc at 6, add-suc at 5, add-suc at 4, add-suc at 3, add-suc at 2, add-suc at 1, add-one at) (omega arith)

-- ---- a run of which all parts are sure
from_join : (m : List ℕ) (j k at : ℕ) → (sure_from j at m && sure_from k (j + at) m) ≡ sure_from (j + k) at m
unfolding sure_from
from_join m zero k at = rw (zero-add at, zero-add k)
from_join m (suc j) k at =
    rw (suc-add j at, ← (add-suc j at), suc-add j k)
    (and_assoc (ltb (get_or m at 0) 2) (sure_from j (suc at) m) (sure_from k (j + suc at) m)
    ∙ rw (from_join m j k (suc at)))

-- eight marks more, after those before
pub eight_more : (m : List ℕ) (i : ℕ) (b : Bool)
    → ((b && sure_from (8 * i) 0 m) && sure_from 8 (8 * i) m) ≡ (b && sure_from (8 * (i + 1)) 0 m)
eight_more m i b =
    let more : 8 * i + 8 ≡ 8 * (i + 1) = omega arith in
    and_assoc b (sure_from (8 * i) 0 m) (sure_from 8 (8 * i) m)
    ∙ ap (λ (t : Bool). b && t) (rw (add-zero, more) at (from_join m (8 * i) 8 0))

from_small : (m : List ℕ) (k at : ℕ) → sure_from k at m ≡ true → (i : ℕ) → at ≤ i → i < at + k → get_or m i 0 ≤ 1
unfolding sure_from
from_small m zero at h i l u = absurd (omega arith)
from_small m (suc k) at h i l u =
    let w = both (ltb (get_or m at 0) 2) (sure_from k (suc at) m) h in
    elim (ℕ_discrete i at) [
      | yes e ↦ rw e (omega (arith, ltb-true (get_or m at 0) 2 w.0))
      | no e ↦ from_small m k (suc at) w.1 i (omega arith) (omega arith)
    ]

small_from : (m : List ℕ) → ((i : ℕ) → get_or m i 0 ≤ 1) → (k at : ℕ) → sure_from k at m ≡ true
unfolding sure_from
small_from m h zero at = refl
small_from m h (suc k) at = simp (lt-ltb (get_or m at 0) 2 (omega (arith, h at)), small_from m h k (suc at))

-- ---- eight marks that are there, and are sure
module _ (at : ℕ) (m : List ℕ) where
  pub eight_past : length m < at + 8 → false ≡ eight_sure at m
  unfolding eight_sure
  eight_past h = simp (lt-leb _ _ h)

  pub eight_there : at + 8 ≤ length m → sure_from 8 at m ≡ eight_sure at m
  unfolding eight_sure
  eight_there h = simp (le-leb _ _ h)

  pub eight_small : eight_sure at m ≡ true
      → (at + 8 ≤ length m) × ((i : ℕ) → at ≤ i → i < at + 8 → get_or m i 0 ≤ 1)
  unfolding eight_sure
  eight_small h =
      let w = both (leb (at + 8) (length m)) (sure_from 8 at m) h in
      (leb-true (at + 8) (length m) w.0, from_small m 8 at w.1)

module _ (m : List ℕ) (long : 59 ≤ length m) (most : length m ≤ 60) where
  pub ends_sure : (sure_from 8 (length m - 8) m && sure_from 56 0 m) ≡ all_sure m
  ends_sure = same_tests _ (all_sure m) (all, ends) (λ h. h, λ h. h)
    where
      all : (sure_from 8 (length m - 8) m && sure_from 56 0 m) ≡ true → all_sure m ≡ true
      all h =
          let w = both (sure_from 8 (length m - 8) m) (sure_from 56 0 m) h in
          small_sure m
          (λ k.
          elim (dec_lt k 56) [
            | yes l ↦ from_small m 56 0 w.1 k (omega arith) (omega arith)
            | no l ↦ elim (dec_lt k (length m)) [
              | yes u ↦ from_small m 8 (length m - 8) w.0 k (omega arith) (omega arith)
              | no u ↦ omega (arith, get_or-eq_default m 0 {n = k} (omega arith))
            ]
          ])

      ends : all_sure m ≡ true → (sure_from 8 (length m - 8) m && sure_from 56 0 m) ≡ true
      ends h =
          let small = small_from m (sure_small m h) in
          simp (small 8 (length m - 8), small 56 0)

-- ---- numbers of marks
-- a number of marks is that of the first ones and that of the rest
pub binary_split : (m : List ℕ) (j n at : ℕ) → binary (j + n) at m ≡ binary j at m + 2 ^ j * binary n (at + j) m
unfolding binary
binary_split m zero n at = rw (zero-add, add-zero) (omega arith)
binary_split m (suc j) n at =
    rw (suc-add, add-suc, ← suc-add, binary_split m j n (suc at), pow-succ', mul_assoc) (omega arith)

binary_four : (m : List ℕ) (at : ℕ)
    → binary 4 at m ≡ get_or m at 0 + 2 * (get_or m (at + 1) 0 + 2 * (get_or m (at + 2) 0 + 2 * get_or m (at + 3) 0))
unfolding binary
binary_four m at =
    rw (add-suc at 2, add-suc at 1, add-one at, add-zero)

module _ {lo p : ℕ} (hi : ℕ) (h : lo < p) where
  pub high_part : (lo + p * hi) / p ≡ hi
  high_part = rw (add_comm, mul_comm) (digits_div hi h)

  pub low_part : (lo + p * hi) % p ≡ lo
  low_part = rw (add_comm, mul_comm) (digits_mod hi h)

module _ (m : List ℕ) (sure : all_sure m ≡ true) where
  pub binary_below : (k at : ℕ) → binary k at m < 2 ^ k
  unfolding binary
  binary_below zero at = omega arith
  binary_below (suc k) at = rw (pow-suc 2 k) (omega (arith, sure_small m sure at, binary_below k (suc at)))

  -- the number of some marks, taken out of the number of more marks
  pub binary_first : (k rest at : ℕ) → binary (k + rest) at m % 2 ^ k ≡ binary k at m
  binary_first k rest at =
      rw (binary_split m k rest at) (low_part (binary rest (at + k) m) (binary_below k at))

  pub binary_rest : (j rest at : ℕ) → binary (j + rest) at m / 2 ^ j ≡ binary rest (at + j) m
  binary_rest j rest at = rw (binary_split m j rest at) (high_part (binary rest (at + j) m) (binary_below j at))

  pub binary_field : (j k rest at : ℕ) → binary (j + (k + rest)) at m / 2 ^ j % 2 ^ k ≡ binary k (at + j) m
  binary_field j k rest at = rw (binary_rest j (k + rest) at) (binary_first k rest (at + j))

  pub ones_binary : (k at : ℕ) → ones (binary k at m) ≡ longs k at m
  unfolding binary longs ones
  ones_binary zero at = refl
  ones_binary (suc k) at =
      let b = get_or m at 0 in
      let n = binary k (suc at) m in
      let h : b < 2 = omega (arith, sure_small m sure at) in
      ones_step (b + 2 * n) ∙ rw (low_part n h, high_part n h, ones_binary k (suc at))

-- eight marks in four bytes, and the product that has them side by side at bit 24
side_by_side : (a b c d e f g h : ℕ) → a ≤ 1 → b ≤ 1 → c ≤ 1 → d ≤ 1 → e ≤ 1 → f ≤ 1 → g ≤ 1 → h ≤ 1
    → (a + 256 * (b + 256 * (c + 256 * d)) + 16 * (e + 256 * (f + 256 * (g + 256 * h)))) * 16909320 / 16777216 % 256
    ≡ a + 2 * (b + 2 * (c + 2 * d)) + 16 * (e + 2 * (f + 2 * (g + 2 * h)))
side_by_side a b c d e f g h p q r s t u v w =
    let n = a + 2 * (b + 2 * (c + 2 * d)) + 16 * (e + 2 * (f + 2 * (g + 2 * h))) in
    let bytes = a + 256 * (b + 256 * (c + 256 * d)) + 16 * (e + 256 * (f + 256 * (g + 256 * h))) in
    let above = b + 258 * c + 66052 * d + 16 * (f + 258 * g + 66052 * h) in
    let high : bytes * 16909320 / 16777216 ≡ n + 256 * above = omega arith in
    rw high (omega arith)

pub eight_marks : (m : List ℕ) → all_sure m ≡ true → (at : ℕ)
    → (four_bytes at m + 16 * four_bytes (at + 4) m) * 16909320 / 16777216 % 256 ≡ binary 8 at m
eight_marks m sure at =
    let small = sure_small m sure in
    rw (binary_split m 4 4 at, binary_four m at, binary_four m (at + 4))
    (side_by_side _ _ _ _ _ _ _ _ (small at) (small (at + 1)) (small (at + 2)) (small (at + 3)) (small (at + 4))
    (small (at + 4 + 1)) (small (at + 4 + 2)) (small (at + 4 + 3)))
