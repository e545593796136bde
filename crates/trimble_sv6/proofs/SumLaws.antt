-- Laws of the sum: the code's way to it, eight bytes at once, and that it is the one in words.
use Rattle.std.proofs.Common.{◌≡◌, ℕ, zero, suc, ◌+◌, ◌-◌, ◌*◌, ◌/◌, ◌%◌, ◌^◌, true, cond, eqb, ltb, ◌↔◌, List, [], ◌∷◌, ◌++◌, get_or, sym, refl, ap, ◌∙◌, ap₂, mul_comm, suc-add, pow-suc, zero-add, div-one, arith, lit<, eqb→eq, eq-eqb, eqb-true}
use native.Mathlib.Nat.{div-div-eq-div-mul}
use lib.Bits.{bit_xor, xor_mod, xor_shr, xor_zero_r}
use Rattle.clock_time.specs.Lists.{ascii, slice}
use Rattle.clock_time.proofs.ListsLaws.{slice_slice}
use Rattle.clock_time.proofs.Tests.{both, below_at}
use Rattle.layout.specs.Layout.{FitsLayout, allowed}
use Rattle.layout_words.specs.Words.{word}
use Rattle.layout_words.proofs.WordLaws.{Bytes}
use Rattle.trimble_sv6.specs.Sum.{xor_of, bytes_xor, trimble_sum, hex_digit, sum_holds}
use Rattle.trimble_sv6.specs.Trimble.{trimble_layout}
use Rattle.trimble_sv6.specs.Says.{bit_at, bit_count, capital_hex, SumRules}
use Rattle.trimble_sv6.proofs.XorLaws.{xor_assoc, xor_exchange, bit_xor_lem, bit_zero, low_bits, same_bits}

-- ---- the bytes of a word
pub bytes_xor_lem : (n v w : ℕ) → bytes_xor n (bit_xor v w) ≡ bit_xor (bytes_xor n v) (bytes_xor n w)
unfolding bytes_xor
bytes_xor_lem zero v w = refl
bytes_xor_lem (suc n) v w =
    ap₂ bit_xor (xor_mod v w 8) (ap (bytes_xor n) (xor_shr v w 8) ∙ bytes_xor_lem n (v / 256) (w / 256))
    ∙ xor_exchange (v % 256) (w % 256) (bytes_xor n (v / 256)) (bytes_xor n (w / 256))

bytes_split : (m n w : ℕ) → bytes_xor (m + n) w ≡ bit_xor (bytes_xor m w) (bytes_xor n (w / 256 ^ m))
unfolding bytes_xor
bytes_split zero n w = rw (zero-add n, div-one w)
bytes_split (suc m) n w =
    let e : w / 256 / 256 ^ m ≡ w / 256 ^ suc m =
    div-div-eq-div-mul w 256 (256 ^ m) ∙ ap (λ (x : ℕ). w / x) (mul_comm 256 (256 ^ m) ∙ sym (pow-suc 256 m)) in
    rw (suc-add m n)
    (ap (bit_xor (w % 256)) (bytes_split m n (w / 256) ∙ rw e)
    ∙ sym (xor_assoc (w % 256) (bytes_xor m (w / 256)) (bytes_xor n (w / 256 ^ suc m))))

-- the upper half of a word laid over the lower
pub bytes_halved : (n w : ℕ) → bytes_xor (n + n) w ≡ bytes_xor n (bit_xor w (w / 256 ^ n))
bytes_halved n w = bytes_split n n w ∙ sym (bytes_xor_lem n w (w / 256 ^ n))

-- to four bytes, to two and to one
pub folded : (w : ℕ) → let four = bit_xor w (w / 4294967296) in let two = bit_xor four (four / 65536) in
    bytes_xor 8 w ≡ bit_xor two (two / 256) % 256
unfolding bytes_xor
folded w =
    let four = bit_xor w (w / 4294967296) in
    let two = bit_xor four (four / 65536) in
    bytes_halved 4 w ∙ bytes_halved 2 four ∙ bytes_halved 1 two ∙ xor_zero_r (bit_xor two (two / 256) % 256)

bytes_word : (n at : ℕ) (s : List ℕ) → Bytes s → bytes_xor n (word (slice at n s)) ≡ xor_of (slice at n s)
unfolding bytes_xor word xor_of
bytes_word zero at s h = refl
bytes_word (suc n) at s h =
    let b = get_or s at 0 in
    let w = word (slice (suc at) n s) in
    let low : (w * 256 + b) % 256 ≡ b = omega (arith, h at) in
    let high : (w * 256 + b) / 256 ≡ w = omega (arith, h at) in
    rw (low, high) (ap (bit_xor b) (bytes_word n (suc at) s h))

-- ---- the string's bytes
xor_append : (x y : List ℕ) → xor_of (x ++ y) ≡ bit_xor (xor_of x) (xor_of y)
unfolding xor_of
xor_append [] y = refl
xor_append (b ∷ x) y = ap (bit_xor b) (xor_append x y) ∙ sym (xor_assoc b (xor_of x) (xor_of y))

xor_slices : (j k at : ℕ) (s : List ℕ)
    → xor_of (slice at (j + k) s) ≡ bit_xor (xor_of (slice at j s)) (xor_of (slice (j + at) k s))
xor_slices j k at s = ap xor_of (sym (slice_slice s j k at)) ∙ xor_append (slice at j s) (slice (j + at) k s)

two_bytes : (at : ℕ) (s : List ℕ) → bit_xor (get_or s at 0) (get_or s (suc at) 0) ≡ xor_of (slice at 2 s)
unfolding xor_of
two_bytes at s = ap (bit_xor (get_or s at 0)) (sym (xor_zero_r (get_or s (suc at) 0)))

-- four words and two bytes
sum_words : (s : List ℕ) → Bytes s → let at : ℕ → ℕ = λ i. word (slice i 8 s) in
    bit_xor (bit_xor (bytes_xor 8 (bit_xor (bit_xor (bit_xor (at 0) (at 8)) (at 16)) (at 24))) (get_or s 32 0)) (get_or s 33 0)
    ≡ trimble_sum s
unfolding trimble_sum
sum_words s h =
    ap (λ (x : ℕ). bit_xor (bit_xor x (get_or s 32 0)) (get_or s 33 0)) words
    ∙ xor_assoc (xor_of (slice 0 32 s)) (get_or s 32 0) (get_or s 33 0)
    ∙ ap (bit_xor (xor_of (slice 0 32 s))) (two_bytes 32 s)
    ∙ sym (xor_slices 32 2 0 s)
  where
    eight : (at : ℕ) → bytes_xor 8 (word (slice at 8 s)) ≡ xor_of (slice at 8 s)
    eight at = bytes_word 8 at s h

    -- the next eight bytes
    more : (n w : ℕ) → bytes_xor 8 w ≡ xor_of (slice 0 n s)
        → bytes_xor 8 (bit_xor w (word (slice (n + 0) 8 s))) ≡ xor_of (slice 0 (n + 8) s)
    more n w e =
        bytes_xor_lem 8 w (word (slice (n + 0) 8 s)) ∙ ap₂ bit_xor e (eight (n + 0)) ∙ sym (xor_slices n 8 0 s)

    words : bytes_xor 8 (bit_xor (bit_xor (bit_xor (word (slice 0 8 s)) (word (slice 8 8 s))) (word (slice 16 8 s)))
        (word (slice 24 8 s))) ≡ xor_of (slice 0 32 s)
    words = more 24 _ (more 16 _ (more 8 _ (eight 0)))

-- of a string that fits, in which the two are `;*`
pub sum_fitting : {s : List ℕ} → FitsLayout trimble_layout s → Bytes s → let at : ℕ → ℕ = λ i. word (slice i 8 s) in
    bit_xor (bit_xor (bytes_xor 8 (bit_xor (bit_xor (bit_xor (at 0) (at 8)) (at 16)) (at 24))) 59) 42 ≡ trimble_sum s
unfolding trimble_layout ascii allowed
sum_fitting {s} f h =
    let semicolon : get_or s 32 0 ≡ 59 = eqb-true _ _ (f.at 32 (lit< tt)) in
    let star : get_or s 33 0 ≡ 42 = eqb-true _ _ (f.at 33 (lit< tt)) in
    rw (semicolon, star) at (sum_words s h)

-- ---- in words
parity : (x c : ℕ) → (x + c % 2) % 2 ≡ (x + c) % 2
parity x c = omega arith

bit_count_lem : (k n at : ℕ) (s : List ℕ) → bit_at k (xor_of (slice at n s)) ≡ bit_count k at n s % 2
unfolding xor_of
bit_count_lem k zero at s = bit_zero k
bit_count_lem k (suc n) at s =
    bit_xor_lem k (get_or s at 0) (xor_of (slice (suc at) n s))
    ∙ ap (λ (x : ℕ). (bit_at k (get_or s at 0) + x) % 2) (bit_count_lem k n (suc at) s)
    ∙ parity (bit_at k (get_or s at 0)) (bit_count k (suc at) n s)

-- the capital hex digits as the code has them
pub hex_capital : (n : ℕ) → hex_digit n ≡ capital_hex (n % 16)
unfolding hex_digit ascii
hex_capital n =
    let capital : ℕ → ℕ = λ d. cond (ltb d 10) (48 + d) (65 + (d - 10)) in
    eqb→eq _ _ (below_at 16 (λ d. eqb (capital d) (capital_hex d)) tt (n % 16) (omega arith))

pub sum_exactly : (s : List ℕ) → (sum_holds s ≡ true) ↔ SumRules s
unfolding sum_holds trimble_sum
sum_exactly s = (
  λ h.
      let w = both (eqb (get_or s 34 0) (hex_digit (n / 16))) (eqb (get_or s 35 0) (hex_digit n)) h in
      record {
        sum = n % 256;
        exclusive_or = record { byte = omega arith; bits = λ k j. low_bits 8 k n j ∙ bit_count_lem k 34 0 s };
        first = eqb-true _ _ w.0 ∙ hex_capital (n / 16) ∙ ap capital_hex upper;
        second = eqb-true _ _ w.1 ∙ hex_capital n ∙ ap capital_hex lower;
      },
  λ r.
      let x = r.exclusive_or in
      let e = same_bits 8 r.sum (n % 256) x.byte (omega arith)
      (λ k j. x.bits k j ∙ sym (low_bits 8 k n j ∙ bit_count_lem k 34 0 s)) in
      simp (
        eq-eqb (get_or s 34 0) (hex_digit (n / 16))
            (r.first ∙ ap (λ (y : ℕ). capital_hex (y / 16)) e ∙ sym (hex_capital (n / 16) ∙ ap capital_hex upper)),
        eq-eqb (get_or s 35 0) (hex_digit n)
            (r.second ∙ ap (λ (y : ℕ). capital_hex (y % 16)) e ∙ sym (hex_capital n ∙ ap capital_hex lower)),
      ),
)
  where
    n : ℕ
    n = xor_of (slice 0 34 s)

    upper : n / 16 % 16 ≡ n % 256 / 16
    upper = omega arith

    lower : n % 16 ≡ n % 256 % 16
    lower = omega arith
