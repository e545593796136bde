-- A word put to a test that goes byte by byte: it passes exactly if each of its bytes may stand at its place.
use Rattle.std.proofs.Common.{◌≡◌, ℕ, suc, ◌+◌, ◌*◌, ◌/◌, ◌%◌, ◌^◌, ◌<◌, Bool, true, false, ◌&&◌, T, eqb, ltb, List, [], ◌∷◌, map, length, get_or, sym, refl, ap, ◌∙◌, pow-suc, arith, lit<, ltb→lt}
use native.Mathlib.Nat.{one-le-pow}
use lib.Arith.{mod-mul}
use lib.Bits.{bit_and, bit_or, bit_xor, or_block, or_lt, xor_block, xor_lt}
use Rattle.clock_time.specs.Lists.{slice}
use Rattle.clock_time.proofs.Tests.{below}
use Rattle.bits.proofs.ByteLaws.{zero_block}
use Rattle.layout.specs.Layout.{allowed, fits_from}
use Rattle.layout.proofs.PartLaws.{fits_and}
use Rattle.layout_words.specs.Words.{word}
use Rattle.layout_words.proofs.ByteLaws.{clear, stays_byte, stays}
use Rattle.layout_words.proofs.WordLaws.{Bytes}

-- ---- any such test
-- it holds of a word exactly if its lowest byte may stand at its place and it holds of the others
module _
    {A : Type 0} (place : A → ℕ) (holds : List A → ℕ → Bool) (none : holds [] 0 ≡ true)
    (step : (p : A) (ps : List A) (w b : ℕ) → b < 256
    → holds (p ∷ ps) (w * 256 + b) ≡ (allowed (place p) b && holds ps w))
  where
    -- then it holds of bytes of a string exactly if they fit these places
    pub word_fits : (ps : List A) (s : List ℕ) (at : ℕ) → Bytes s
        → holds ps (word (slice at (length ps) s)) ≡ fits_from true at (map place ps) s
    unfolding word fits_from
    word_fits [] s at h = none
    word_fits (p ∷ ps) s at h =
        let fits = allowed (place p) (get_or s at 0) in
        step p ps (word (slice (suc at) (length ps) s)) (get_or s at 0) (h at)
        ∙ ap (λ (t : Bool). fits && t) (word_fits ps s (suc at) h)
        ∙ sym (fits_and fits (suc at) (map place ps) s)

-- ---- a test of bits
-- the numbers that a byte is tested with: its sum carries nothing over to the next byte's if it passes
pub record ByteTest : Type 0 where
  pub byte : ℕ
  pub more : ℕ
  pub high : ℕ
  pub byte_small : byte < 256
  pub high_small : high < 256
  pub no_carry : (x : ℕ) → x < 256 → clear 256 more high x ≡ true → x + more < 256

-- numbers of which that holds by computation
abbrev pub computed : (byte more high : ℕ) → T (ltb byte 256) → T (ltb high 256) → T (below 256 (stays_byte more high))
    → ByteTest
computed byte more high small few kept =
    record {
      byte = byte;
      more = more;
      high = high;
      byte_small = ltb→lt byte 256 small;
      high_small = ltb→lt high 256 few;
      no_carry = stays more high kept;
    }

-- the byte passes
abbrev pub passes : ByteTest → ℕ → Bool
passes t b = clear 256 t.more t.high (bit_xor b t.byte)

-- the lowest byte r of a difference, and the others x if it passes: then its sum carries nothing over to theirs
clear_step : (size m h x n k r : ℕ) → 0 < size → r < 256 → k < 256 → (clear 256 n k r ≡ true → r + n < 256)
    → clear (size * 256) (m * 256 + n) (h * 256 + k) (x * 256 + r) ≡ (clear 256 n k r && clear size m h x)
clear_step size m h x n k r some hr hk kept =
    ap (λ (y : ℕ). eqb (bit_and (bit_or (x * 256 + r) y) (h * 256 + k)) 0) sum
    ∙ ap (λ (y : ℕ). eqb (bit_and y (h * 256 + k)) 0) (or_block 8 x high r low hr (omega arith))
    ∙ zero_block (bit_or x high) h (bit_or r low) k (or_lt 8 r low hr (omega arith)) hk
    ∙ go (clear 256 n k r) refl
  where
    low : ℕ
    low = (r + n) % 256

    high : ℕ
    high = (x + m + (r + n) / 256) % size

    sum : (x * 256 + r + (m * 256 + n)) % (size * 256) ≡ high * 256 + low
    sum =
        let e : (x * 256 + r + (m * 256 + n)) / 256 ≡ x + m + (r + n) / 256 = omega arith in
        let f : (x * 256 + r + (m * 256 + n)) % 256 ≡ (r + n) % 256 = omega arith in
        mod-mul (x * 256 + r + (m * 256 + n)) some (lit< tt) ∙ rw (e, f)

    go : (t : Bool) → clear 256 n k r ≡ t
        → (clear 256 n k r && eqb (bit_and (bit_or x high) h) 0) ≡ (clear 256 n k r && clear size m h x)
    go true q = let z : x + m + (r + n) / 256 ≡ x + m = omega (arith, kept q) in rw z
    go false q = rw q

-- the bytes of a word pass, tested at once
abbrev pub passes_all : List ByteTest → ℕ → Bool
passes_all ts w =
    clear (256 ^ length ts) (word (map (λ t. t.more) ts)) (word (map (λ t. t.high) ts))
    (bit_xor w (word (map (λ t. t.byte) ts)))

-- they do exactly if the lowest passes, and the others do
pub passes_all_lem : (t : ByteTest) (ts : List ByteTest) (w b : ℕ) → b < 256
    → passes_all (t ∷ ts) (w * 256 + b) ≡ (passes t b && passes_all ts w)
unfolding word
passes_all_lem t ts w b h =
    let bytes = word (map (λ t. t.byte) ts) in
    let small = xor_lt 8 b t.byte h t.byte_small in
    rw (pow-suc 256 (length ts), xor_block 8 w bytes b t.byte h t.byte_small)
    (clear_step (256 ^ length ts) (word (map (λ t. t.more) ts)) (word (map (λ t. t.high) ts)) (bit_xor w bytes)
    t.more t.high (bit_xor b t.byte) (one-le-pow (length ts) 256 (lit< tt)) small t.high_small
    (t.no_carry (bit_xor b t.byte) small))
