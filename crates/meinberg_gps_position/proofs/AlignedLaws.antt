-- Laws of right-aligned numbers, each for any number of places.
use Prim.Native.Nat.{ℕ, zero, suc, ◌-◌, ◌%◌, ◌^◌, ◌≤◌, ◌<◌}
use native.Mathlib.Decide.{dec_lt}
use native.Mathlib.Omega.{arith}
use mathlib.Core.Path.{◌≡◌, refl}
use mathlib.Core.Logic.{◌⊎◌, inl, inr, ⊎_elim}
use mathlib.Core.Bool.{Bool, true, false, ◌&&◌, ◌||◌, and-false, or-false, false≢true}
use mathlib.Core.List.{List, [], ◌∷◌}
use lib.Dec.{leb, eqb}
use lib.ListN.{length, get_or, get_or-eq_default}
use borrow.Author.Tests.{eqb-true, leb-true, le-leb}
use Rattle.clock_time.proofs.Tests.{both}
use Rattle.decimal.specs.Decimal.{is_digit, value}
use Rattle.decimal.proofs.DecimalLaws.{digit_range, Low, value_low}
use Rattle.layout.proofs.PictureLaws.{or_holds}
use Rattle.meinberg_gps_position.specs.Aligned.{are_digits, right_aligned, digits_or_blanks}

-- ---- digits and blanks
-- a digit or a blank: its low half is the number that it counts as
pub record Numeric (b : ℕ) : Type 0 where
  pub low : b % 16 ≡ b - 48
  pub small : b ≤ 57

numeric_byte : (b : ℕ) → (is_digit b || eqb b 32) ≡ true → Numeric b
numeric_byte b h = go (is_digit b) (eqb b 32) refl refl h
  where
    go : (t u : Bool) → is_digit b ≡ t → eqb b 32 ≡ u → (t || u) ≡ true → Numeric b
    go true u e f h = let r = digit_range b e in record { low = omega arith; small = omega arith }
    go false true e f h = let r = eqb-true b 32 f in record { low = omega arith; small = omega arith }
    go false false e f h = absurd (false≢true h)

pub numeric_at : (s : List ℕ) → digits_or_blanks s ≡ true → (i : ℕ) → i < length s → Numeric (get_or s i 0)
unfolding digits_or_blanks
numeric_at [] h i j = absurd (omega arith)
numeric_at (b ∷ s) h zero j = numeric_byte b (both (is_digit b || eqb b 32) (digits_or_blanks s) h).0
numeric_at (b ∷ s) h (suc i) j = numeric_at s (both (is_digit b || eqb b 32) (digits_or_blanks s) h).1 i (omega arith)

digit_numeric : (b : ℕ) → is_digit b ≡ true → (is_digit b || eqb b 32) ≡ true
digit_numeric b h = rw h

pub digits_numeric : (s : List ℕ) → are_digits s ≡ true → digits_or_blanks s ≡ true
unfolding are_digits digits_or_blanks
digits_numeric [] h = refl
digits_numeric (b ∷ s) h =
    let w = both (is_digit b) (are_digits s) h in simp (digit_numeric b w.0, digits_numeric s w.1)

pub digits_cons : (b : ℕ) (s : List ℕ) → are_digits (b ∷ s) ≡ true → (48 ≤ b) × (b ≤ 57) × (are_digits s ≡ true)
unfolding are_digits
digits_cons b s h =
    let w = both (is_digit b) (are_digits s) h in
    let r = digit_range b w.0 in
    (r.0, r.1, w.1)

-- ---- right-aligned numbers
-- how a run of bytes is right-aligned: a digit, or after a blank, or digits that begin with no zero
pub data Aligned : List ℕ → Type 0 where
  last : {b : ℕ} → is_digit b ≡ true → Aligned (b ∷ [])
  blank : {b : ℕ} {s : List ℕ} → b ≡ 32 → Aligned s → Aligned (b ∷ s)
  high : {b c : ℕ} {s : List ℕ} → 49 ≤ b → b ≤ 57 → are_digits (c ∷ s) ≡ true → Aligned (b ∷ c ∷ s)

-- two ways to go on from a byte that is not the last
pub aligned_ways : (b c : ℕ) (s : List ℕ) → right_aligned (b ∷ c ∷ s) ≡ true
    → ((b ≡ 32) × (right_aligned (c ∷ s) ≡ true)) ⊎ ((49 ≤ b) × (b ≤ 57) × (are_digits (c ∷ s) ≡ true))
unfolding right_aligned
aligned_ways b c s h =
    ⊎_elim
    (λ e. let w = both (eqb b 32) (right_aligned (c ∷ s)) e in inl (eqb-true b 32 w.0, w.1))
    (λ e.
    let w = both (leb 49 b && leb b 57) (are_digits (c ∷ s)) e in
    let v = both (leb 49 b) (leb b 57) w.0 in
    inr (leb-true 49 b v.0, leb-true b 57 v.1, w.1))
    (or_holds (eqb b 32 && right_aligned (c ∷ s)) (leb 49 b && leb b 57 && are_digits (c ∷ s)) h)

pub aligned_how : (s : List ℕ) → right_aligned s ≡ true → Aligned s
unfolding right_aligned
aligned_how [] h = absurd (false≢true h)
aligned_how (b ∷ []) h = last h
aligned_how (b ∷ c ∷ s) h =
    ⊎_elim (λ w. blank w.0 (aligned_how (c ∷ s) w.1)) (λ w. high w.0 w.1 w.2) (aligned_ways b c s h)

aligned_made : {s : List ℕ} → Aligned s → digits_or_blanks s ≡ true
unfolding digits_or_blanks is_digit
aligned_made (last {b} h) = simp (digit_numeric b h)
aligned_made (blank e a) = rw (e, aligned_made a)
aligned_made (high {b} {c} {s} lo hi d) =
    let low : 48 ≤ b = omega arith in
    rw (le-leb 48 b low, le-leb b 57 hi) (digits_numeric (c ∷ s) d)

pub aligned_numeric : (s : List ℕ) → right_aligned s ≡ true → digits_or_blanks s ≡ true
aligned_numeric s h = aligned_made (aligned_how s h)

-- a blank before a right-aligned number changes nothing
pub aligned_blank : (b : ℕ) (s : List ℕ) → right_aligned (32 ∷ b ∷ s) ≡ right_aligned (b ∷ s)
unfolding right_aligned
aligned_blank b s = or-false (right_aligned (b ∷ s))

-- what ends in no digit is not right-aligned
pub aligned_end : (a b c : ℕ) → right_aligned (a ∷ b ∷ c ∷ 0 ∷ []) ≡ false
unfolding right_aligned are_digits is_digit
aligned_end a b c = simp and-false

-- k digits or blanks stand for a number below 10 ^ k
pub value_small : (s : List ℕ) → digits_or_blanks s ≡ true → value s < 10 ^ length s
value_small s h = value_low s (low s h)
  where
    low : (s : List ℕ) → digits_or_blanks s ≡ true → Low s
    low s h i = elim (dec_lt i (length s)) [
      | yes l ↦ (numeric_at s h i l).small
      | no l ↦ let out : length s ≤ i = omega arith in omega (arith, get_or-eq_default s 0 out)
    ]
