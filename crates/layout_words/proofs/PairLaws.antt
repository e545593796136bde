-- Three or four pairs of digits at once: the code's sums on a word are the numbers of its pairs.
use Rattle.std.proofs.Common.{◌≡◌, ℕ, zero, suc, ◌+◌, ◌*◌, ◌/◌, ◌%◌, ◌^◌, ◌<◌, ◌≤◌, true, T, eqb, ltb, List, [], ◌∷◌, length, get_or, refl, ◌∙◌, add-zero, arith, lit<, ltb→lt, eqb-true}
use lib.Bits.{bit_and, and_block, and_le_r, and_mask, and_zero_l}
use native.Mathlib.Nat.{pow-succ', div-div-eq-div-mul}
use Rattle.std.specs.Int.{bytes_low_first}
use Rattle.clock_time.proofs.Tests.{both}
use Rattle.clock_time.specs.Lists.{slice}
use Rattle.decimal.specs.Decimal.{value_from}
use Rattle.decimal.proofs.DecimalLaws.{digit_range}
use Rattle.layout.specs.Layout.{digit, places, FitsLayout, number}
use Rattle.layout_words.specs.Words.{word, enough, low_pair, seven_pairs, three_numbers, numbers_at, four_numbers}
use Rattle.layout_words.specs.Words.{four_numbers_at}
use Rattle.layout.proofs.LayoutLaws.{all_digits, place_within, digit_place_lem}
use Rattle.layout_words.proofs.WordLaws.{Bytes, bytes_enough, enough_bytes}

-- ---- the low halves of bytes
abbrev halves : (n at : ℕ) (s : List ℕ) → List ℕ
halves zero at s = []
halves (suc n) at s = get_or s at 0 % 16 ∷ halves n (suc at) s

-- the code's mask leaves them
word_halves : (n at : ℕ) (s : List ℕ) → Bytes s
    → bit_and (word (slice at n s)) (word (places n 15)) ≡ word (halves n at s)
unfolding word
word_halves zero at s h = and_zero_l 0
word_halves (suc n) at s h =
    and_block 8 (word (slice (suc at) n s)) (word (places n 15)) (get_or s at 0) 15 (h at) (lit< tt)
    ∙ rw (and_mask (get_or s at 0) 4, word_halves n (suc at) s h)

-- ten times a word of low halves, and the word moved by a byte: each byte of the sum is the number of a pair
module _ (a b : ℕ) (s : List ℕ) (ha : a < 16) (hb : b < 16) where
  pair_here : (10 * word (a ∷ b ∷ s) + word (b ∷ s)) % 256 ≡ 10 * a + b
  unfolding word
  pair_here = omega arith

  pair_next : (10 * word (a ∷ b ∷ s) + word (b ∷ s)) / 256 ≡ 10 * word (b ∷ s) + word s
  unfolding word
  pair_next = omega arith

-- a low half is below 16
low : (n : ℕ) → n % 16 < 16
low n = omega arith

-- a word moved by a byte has lost its lowest
moved : (a : ℕ) (s : List ℕ) → a < 16 → word (a ∷ s) / 256 ≡ word s
unfolding word
moved a s h = omega arith

-- a word moved by bytes
abbrev moved_by : ℕ → ℕ → ℕ
moved_by zero w = w
moved_by (suc k) w = moved_by k (w / 256)

moved_power : (k w : ℕ) → moved_by k w ≡ w / 256 ^ k
moved_power zero w = omega arith
moved_power (suc k) w = moved_power k (w / 256) ∙ rw (pow-succ', div-div-eq-div-mul)

-- byte k of that sum is the number of the pair from place k on
half_pair : (k n i at : ℕ) (s : List ℕ) → k < n → i ≡ at + k
    → moved_by k (10 * word (halves (suc n) at s) + word (halves n (suc at) s)) % 256 ≡ low_pair i s
unfolding low_pair
half_pair k zero i at s h e = absurd (omega arith)
half_pair zero (suc n) i at s h e =
    let z : i ≡ at = omega arith in
    rw z (pair_here _ _ (halves n (suc (suc at)) s) (low (get_or s at 0)) (low (get_or s (suc at) 0)))
half_pair (suc k) (suc n) i at s h e =
    rw (pair_next _ _ (halves n (suc (suc at)) s) (low (get_or s at 0)) (low (get_or s (suc at) 0)))
    (half_pair k n i (suc at) s (omega arith) (omega arith))

-- ---- the code's sums: w is the word of eight bytes of a string, m the one that leaves their low halves
module _ (w : ℕ) {m : ℕ} (mask : m ≡ word (places 8 15)) where
  abbrev sums : ℕ
  sums = 10 * bit_and w m + bit_and w m / 256

  -- no more than a word holds
  pub sums_small : sums < 2 ^ 64
  unfolding word
  sums_small = rw mask (omega (arith, and_le_r w (word (places 8 15))))

  module _ (at : ℕ) (s : List ℕ) (e : w ≡ word (slice at 8 (enough at s))) (h : Bytes s) where
    -- byte k is the number of the pair from place k on
    pair_byte : (k : ℕ) → T (ltb k 7) → sums / 256 ^ k % 256 ≡ low_pair (at + k) (enough at s)
    pair_byte k few =
        let t = enough at s in
        rw (
          ← (moved_power k sums),
          e,
          mask,
          word_halves 8 at t (bytes_enough at s h),
          moved (get_or t at 0 % 16) (halves 7 (suc at) t) (low (get_or t at 0)),
        )
        (half_pair k 7 (at + k) at t (ltb→lt k 7 few) refl)

    -- byte 0 is that of the first
    first_pair : sums % 256 ≡ low_pair at (enough at s)
    first_pair =
        let one : sums / 1 ≡ sums = omega arith in
        rw (add-zero, one) at (pair_byte 0 tt)

    -- so the seven lowest are the numbers of seven pairs
    pub seven_sums : bytes_low_first 0 7 sums ≡ seven_pairs at (enough at s)
    seven_sums =
        rw (
          first_pair,
          pair_byte 1 tt,
          pair_byte 2 tt,
          pair_byte 3 tt,
          pair_byte 4 tt,
          pair_byte 5 tt,
          pair_byte 6 tt,
        )

-- ---- digits
module _ {l s : List ℕ} (h : FitsLayout l s) where
  -- the low half of a digit's byte is the digit
  pub low_digit : (at : ℕ) → eqb (get_or l at 0) digit ≡ true → get_or s at 0 % 16 ≡ number 1 at s
  unfolding value_from
  low_digit at d = omega (arith, digit_range (get_or s at 0) (digit_place_lem h at d))

  -- both places of a pair are a digit's
  two_places : (at : ℕ) → all_digits (slice at 2 l) ≡ true
      → (eqb (get_or l at 0) digit ≡ true) × (eqb (get_or l (suc at) 0) digit ≡ true)
  two_places at d =
      let w = both (eqb (get_or l at 0) digit) (all_digits (slice (suc at) 1 l)) d in
      (w.0, (both (eqb (get_or l (suc at) 0) digit) true w.1).0)

  -- so it is for a pair
  pub low_pair_lem : (at : ℕ) → all_digits (slice at 2 l) ≡ true → low_pair at s ≡ number 2 at s
  unfolding low_pair value_from
  low_pair_lem at d = let w = two_places at d in omega (arith, low_digit at w.0, low_digit (suc at) w.1)

  -- a string that fits has as many bytes as its layout has places
  all_places : (at : ℕ) → at + 8 ≤ length l → enough at s ≡ s
  all_places at room = enough_bytes at s (omega (arith, h.long))

  -- a pair at the end of eight places leaves room for them
  eight_places : (at : ℕ) → all_digits (slice (at + 6) 2 l) ≡ true → at + 8 ≤ length l
  eight_places at d =
      let e = eqb-true (get_or l (suc (at + 6)) 0) digit (two_places (at + 6) d).1 in
      omega (arith, place_within l (suc (at + 6)) digit (lit< tt) e)

  -- two and three pairs of digits of a string that fits its layout
  pub numbers_two : (at : ℕ) → at + 8 ≤ length l → all_digits (slice at 2 l) ≡ true
      → all_digits (slice (at + 3) 2 l) ≡ true
      → numbers_at at s
      ≡ number 2 at s ∷ number 2 (at + 3) s ∷ low_pair (at + 6) s ∷ []
  unfolding numbers_at three_numbers
  numbers_two at room a b = rw (all_places at room, low_pair_lem at a, low_pair_lem (at + 3) b)

  pub numbers_fit : (at : ℕ) → all_digits (slice at 2 l) ≡ true → all_digits (slice (at + 3) 2 l) ≡ true
      → all_digits (slice (at + 6) 2 l) ≡ true
      → numbers_at at s
      ≡ number 2 at s ∷ number 2 (at + 3) s ∷ number 2 (at + 6) s ∷ []
  numbers_fit at a b c = numbers_two at (eight_places at c) a b ∙ rw (low_pair_lem (at + 6) c)

  -- four pairs of digits
  pub numbers_four : (at : ℕ) → all_digits (slice at 2 l) ≡ true → all_digits (slice (at + 2) 2 l) ≡ true
      → all_digits (slice (at + 4) 2 l) ≡ true → all_digits (slice (at + 6) 2 l) ≡ true
      → four_numbers_at at s
      ≡ number 2 at s ∷ number 2 (at + 2) s ∷ number 2 (at + 4) s ∷ number 2 (at + 6) s ∷ []
  unfolding four_numbers_at four_numbers
  numbers_four at a b c d =
      let eight = all_places at (eight_places at d) in
      rw (eight, low_pair_lem at a, low_pair_lem (at + 2) b, low_pair_lem (at + 4) c, low_pair_lem (at + 6) d)
