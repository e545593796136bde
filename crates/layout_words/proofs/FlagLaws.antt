-- Bytes that are each a letter or a blank: the test of the word is that of its bytes.
use Rattle.std.proofs.Common.{◌≡◌, ℕ, zero, suc, ◌+◌, ◌*◌, ◌/◌, ◌%◌, ◌<◌, Bool, true, ◌&&◌, ◌||◌, eqb, List, [], ◌∷◌, ◌++◌, length, get_or, sym, ap, ◌∙◌, ap₂, div-add-mod', arith, lit<}
use mathlib.Core.Bool.{or_self, and-true}
use lib.Bits.{bit_and, bit_or, bit_xor, and_block, and_le_r, and_zero_r, or_block, or_lt, xor_block, xor_lt}
use Rattle.clock_time.specs.Lists.{slice}
use Rattle.layout.specs.Layout.{allowed, places, flag_of, fits_from}
use Rattle.layout_words.specs.Words.{word, nonzero_bytes, flag_places}
use Rattle.layout_words.proofs.ByteLaws.{bit_of, bit_small, nonzero_bit, one_zero}
use Rattle.layout.proofs.LayoutLaws.{flag_test, fixed_test}
use Rattle.layout.proofs.PartLaws.{fits_and}
use Rattle.bits.proofs.ByteLaws.{zero_block}
use Rattle.layout_words.proofs.WordLaws.{Bytes}

-- ---- the bytes that are not 0
-- the code's sum of a word
abbrev marked : ℕ → ℕ → ℕ → ℕ
marked low high w = bit_and (bit_or (bit_and w low + low) w) high

marked_block : (l h x r : ℕ) → r < 256
    → marked (l * 256 + 127) (h * 256 + 128) (x * 256 + r) ≡ marked l h x * 256 + marked 127 128 r
marked_block l h x r k =
    let few = and_le_r r 127 in
    let sum : bit_and x l * 256 + bit_and r 127 + (l * 256 + 127) ≡ (bit_and x l + l) * 256 + (bit_and r 127 + 127) =
    omega arith in
    let small : bit_and r 127 + 127 < 256 = omega arith in
    ap (λ (n : ℕ). bit_and (bit_or (n + (l * 256 + 127)) (x * 256 + r)) (h * 256 + 128))
    (and_block 8 x l r 127 k (lit< tt))
    ∙ ap (λ (n : ℕ). bit_and (bit_or n (x * 256 + r)) (h * 256 + 128)) sum
    ∙ ap (λ (n : ℕ). bit_and n (h * 256 + 128)) (or_block 8 (bit_and x l + l) x (bit_and r 127 + 127) r small k)
    ∙ and_block 8 (bit_or (bit_and x l + l) x) h (bit_or (bit_and r 127 + 127) r) 128 (or_lt 8 _ r small k) (lit< tt)

pub nonzero_word : (n w : ℕ) → marked (word (places n 127)) (word (places n 128)) w ≡ nonzero_bytes n w
unfolding word nonzero_bytes
nonzero_word zero w = and_zero_r (bit_or (bit_and w 0 + 0) w)
nonzero_word (suc n) w =
    let byte : w % 256 < 256 = omega arith in
    ap (marked (word (places (suc n) 127)) (word (places (suc n) 128))) (sym (div-add-mod' w 256))
    ∙ marked_block (word (places n 127)) (word (places n 128)) (w / 256) (w % 256) byte
    ∙ ap₂ (λ (x y : ℕ). x * 256 + y) (nonzero_word n (w / 256)) (nonzero_bit (w % 256) byte)

-- ---- flags
-- in each byte one of two differences is 0
abbrev pub each_zero : ℕ → ℕ → ℕ → Bool
each_zero n x y = eqb (bit_and (nonzero_bytes n x) (nonzero_bytes n y)) 0

bytes_step : (n x r : ℕ) → r < 256 → nonzero_bytes (suc n) (x * 256 + r) ≡ nonzero_bytes n x * 256 + bit_of r
unfolding nonzero_bytes
bytes_step n x r h =
    let d : (x * 256 + r) / 256 ≡ x = omega arith in
    let e : (x * 256 + r) % 256 ≡ r = omega arith in
    rw (d, e)

zero_step : (n w p q b i j : ℕ) → i < 256 → j < 256 → b < 256
    → each_zero (suc n) (bit_xor (w * 256 + b) (p * 256 + i)) (bit_xor (w * 256 + b) (q * 256 + j))
    ≡ ((eqb b i || eqb b j) && each_zero n (bit_xor w p) (bit_xor w q))
zero_step n w p q b i j hi hj hb =
    ap₂ (each_zero (suc n)) (xor_block 8 w p b i hb hi) (xor_block 8 w q b j hb hj)
    ∙ ap₂ (λ (x y : ℕ). eqb (bit_and x y) 0) (bytes_step n (bit_xor w p) (bit_xor b i) (xor_lt 8 b i hb hi))
    (bytes_step n (bit_xor w q) (bit_xor b j) (xor_lt 8 b j hb hj))
    ∙ zero_block (nonzero_bytes n (bit_xor w p)) (nonzero_bytes n (bit_xor w q)) (bit_of (bit_xor b i))
    (bit_of (bit_xor b j)) (bit_small (bit_xor b i)) (bit_small (bit_xor b j))
    ∙ ap (λ (t : Bool). t && each_zero n (bit_xor w p) (bit_xor w q)) (one_zero b i j)

-- letters and a last byte, held to the bytes of a string: the first difference is that from blanks
pub flag_word : (letters s : List ℕ) (last at : ℕ) → Bytes letters → last < 256 → Bytes s
    → each_zero (suc (length letters))
    (bit_xor (word (slice at (suc (length letters)) s)) (word (places (length letters) 32 ++ (last ∷ []))))
    (bit_xor (word (slice at (suc (length letters)) s)) (word (letters ++ (last ∷ []))))
    ≡ fits_from true at (flag_places letters last) s
unfolding word nonzero_bytes fits_from
flag_word [] s last at ha hl hs =
    let b = get_or s at 0 in
    zero_step 0 0 0 0 b last last hl hl (hs at)
    ∙ rw (or_self (eqb b last)) (and-true (eqb b last)) ∙ sym (fixed_test last b hl)
flag_word (a ∷ letters) s last at ha hl hs =
    let b = get_or s at 0 in
    zero_step (suc (length letters)) (word (slice (suc at) (suc (length letters)) s))
    (word (places (length letters) 32 ++ (last ∷ []))) (word (letters ++ (last ∷ []))) b 32 a (lit< tt) (ha 0) (hs at)
    ∙ ap₂ ◌&&◌ (sym (flag_test a b (ha 0))) (flag_word letters s last (suc at) (λ i. ha (suc i)) hl hs)
    ∙ sym (fits_and (allowed (flag_of a) b) (suc at) (flag_places letters last) s)
