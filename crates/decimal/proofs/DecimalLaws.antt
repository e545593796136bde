-- Laws of decimal digits, each for any number of them: digits and number determine one another.
use Prim.Native.Nat.{ℕ, zero, suc, ◌+◌, ◌-◌, ◌*◌, ◌/◌, ◌%◌, ◌^◌, ◌≤◌, ◌<◌}
use native.Mathlib.Nat.{pow-succ', pow-le-pow_right, zero-add, add-zero, one-mul, mul_assoc, lt_of_lt_of_le}
use native.Mathlib.Nat.{mul-le-mul_right}
use native.Mathlib.Numerals.{add-one}
use native.Mathlib.Omega.{arith}
use mathlib.Core.Path.{◌≡◌, refl, ◌∙◌}
use mathlib.Core.Bool.{Bool, true, false, cond, and-eq-true_iff}
use mathlib.Core.List.{List, [], ◌∷◌, ◌++◌, append_assoc, append-nil}
use borrow.Author.Tests.{le-leb, leb-true}
use lib.Dec.{leb, lit<}
use lib.ListN.{length, get_or, length-append}
use Rattle.decimal.specs.Decimal.{is_digit, first_non_digit, value_from, value, digits}

-- ---- powers of ten
pub power_next : (i : ℕ) → 10 ^ (i + 1) ≡ 10 * 10 ^ i
power_next i = rw add-one (pow-succ' 10 i)

pub power_small : {i : ℕ} → i ≤ 19 → 10 ^ i ≤ 10 ^ 19
power_small h = pow-le-pow_right (lit< tt) h

-- ---- the bytes that are digits
pub digit_range : (b : ℕ) → is_digit b ≡ true → (48 ≤ b) × (b ≤ 57)
unfolding is_digit
digit_range b h =
    let both = (and-eq-true_iff (leb 48 b) (leb b 57)).0 h in
    (leb-true 48 b both.0, leb-true b 57 both.1)

pub digit_written : (n : ℕ) → is_digit (48 + n % 10) ≡ true
unfolding is_digit
digit_written n = simp (le-leb 48 (48 + n % 10) (omega arith), le-leb (48 + n % 10) 57 (omega arith))

-- ---- the first byte that is no digit
pub first_digit : (b : ℕ) (s : List ℕ) → is_digit b ≡ true → first_non_digit (b ∷ s) ≡ suc (first_non_digit s)
unfolding first_non_digit
first_digit b s h = simp h

pub first_other : (b : ℕ) (s : List ℕ) → is_digit b ≡ false → first_non_digit (b ∷ s) ≡ 0
unfolding first_non_digit
first_other b s h = simp h

digits_cons : (b : ℕ) (s : List ℕ) → first_non_digit (b ∷ s) ≡ length (b ∷ s)
    → (is_digit b ≡ true) × (first_non_digit s ≡ length s)
unfolding first_non_digit
digits_cons b s h = go (is_digit b) h
  where
    go : (t : Bool) → cond t (suc (first_non_digit s)) 0 ≡ suc (length s) → (t ≡ true) × (first_non_digit s ≡ length s)
    go true h = (refl, omega arith)
    go false h = absurd (omega arith)

pub first_within : (s : List ℕ) → first_non_digit s ≤ length s
unfolding first_non_digit
first_within [] = omega arith
first_within (b ∷ s) = go (is_digit b) (first_within s)
  where
    go : (t : Bool) → first_non_digit s ≤ length s → cond t (suc (first_non_digit s)) 0 ≤ suc (length s)
    go true h = omega arith
    go false h = omega arith

-- ---- the number of a run of digits
pub value_from_append : (n : ℕ) (s t : List ℕ) → value_from n (s ++ t) ≡ value_from (value_from n s) t
unfolding value_from
value_from_append n [] t = refl
value_from_append n (b ∷ s) t = value_from_append (10 * n + (b - 48)) s t

-- no byte is above the digits
abbrev pub Low : List ℕ → Type 0
Low s = (i : ℕ) → get_or s i 0 ≤ 57

value_from_low : (n : ℕ) (s : List ℕ) → Low s → value_from n s < (n + 1) * 10 ^ length s
unfolding value_from
value_from_low n [] h = omega arith
value_from_low n (b ∷ s) h =
    let f : (n + 1) * 10 ≡ 10 * n + 10 = omega arith in
    let e : (n + 1) * 10 ^ suc (length s) ≡ (10 * n + 10) * 10 ^ length s = rw (pow-succ', ← mul_assoc, f) in
    let g : 10 * n + (b - 48) + 1 ≤ 10 * n + 10 = omega (arith, h 0) in
    let more = value_from_low (10 * n + (b - 48)) s (λ i. h (suc i)) in
    rw e (lt_of_lt_of_le more (mul-le-mul_right (10 ^ length s) g))

pub value_low : (s : List ℕ) → Low s → value s < 10 ^ length s
value_low s h = rw one-mul at (value_from_low 0 s h)

digits_low : (s : List ℕ) → first_non_digit s ≡ length s → Low s
digits_low [] h i = omega arith
digits_low (b ∷ s) h zero = (digit_range b (digits_cons b s h).0).1
digits_low (b ∷ s) h (suc i) = digits_low s (digits_cons b s h).1 i

-- k digits stand for a number below 10 ^ k
pub value_below : (s : List ℕ) → first_non_digit s ≡ length s → value s < 10 ^ length s
value_below s h = value_low s (digits_low s h)

-- ---- the digits of a number
pub length_digits : (k n : ℕ) → length (digits k n) ≡ k
unfolding digits
length_digits zero n = refl
length_digits (suc k) n = rw length-append (omega (arith, length_digits k (n / 10)))

pub tenth_below : (k n : ℕ) → n < 10 ^ suc k → n / 10 < 10 ^ k
tenth_below k n h = omega (arith, pow-succ' 10 k)

-- a last byte after those of a number's tenth
pub value_last : (s : List ℕ) (b n : ℕ) → value s ≡ n / 10 → b - 48 ≡ n % 10 → value (s ++ (b ∷ [])) ≡ n
unfolding value_from
value_last s b n e h = rw (value_from_append 0, e) (omega arith)

-- a number below 10 ^ k is what its last k digits stand for
pub value_digits : (k n : ℕ) → n < 10 ^ k → value (digits k n) ≡ n
unfolding digits value_from
value_digits zero n h = omega arith
value_digits (suc k) n h =
    value_last (digits k (n / 10)) _ n (value_digits k (n / 10) (tenth_below k n h)) (omega arith)

digits_value_from : (s : List ℕ) → first_non_digit s ≡ length s → (k n : ℕ)
    → digits (length s + k) (value_from n s) ≡ digits k n ++ s
unfolding digits value_from
digits_value_from [] h k n = rw (zero-add, append-nil)
digits_value_from (b ∷ s) h k n =
    let d = digits_cons b s h in
    let range = digit_range b d.0 in
    let e : suc (length s) + k ≡ length s + suc k = omega arith in
    let before : (10 * n + (b - 48)) / 10 ≡ n = omega arith in
    let last : 48 + (10 * n + (b - 48)) % 10 ≡ b = omega arith in
    rw e (digits_value_from s d.1 (suc k) (10 * n + (b - 48)) ∙ rw (before, last, append_assoc))

-- a run of digits is the digits of its number
pub digits_value : (s : List ℕ) → first_non_digit s ≡ length s → digits (length s) (value s) ≡ s
unfolding digits
digits_value s h = rw add-zero at (digits_value_from s h 0 0)

first_append : (s t : List ℕ) → first_non_digit s ≡ length s → first_non_digit (s ++ t) ≡ length s + first_non_digit t
first_append [] t h = omega arith
first_append (b ∷ s) t h =
    let d = digits_cons b s h in
    rw (first_digit b (s ++ t) d.0, first_append s t d.1) (omega arith)

-- digits are written as digits
pub digits_are_digits : (k n : ℕ) → first_non_digit (digits k n) ≡ length (digits k n)
unfolding digits first_non_digit
digits_are_digits zero n = refl
digits_are_digits (suc k) n =
    rw (first_append _ _ (digits_are_digits k (n / 10)), length-append, first_digit _ [] (digit_written n))
