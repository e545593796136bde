-- Right-aligned numbers are read as they were written, for any number of places.
use Prim.Native.Nat.{ℕ, zero, suc, ◌+◌, ◌-◌, ◌/◌, ◌%◌, ◌^◌, ◌<◌}
use native.Mathlib.Decide.{dec_lt, ℕ_discrete}
use native.Mathlib.Nat.{pow-succ', div-one, div-div-eq-div-mul}
use native.Mathlib.Omega.{arith}
use mathlib.Core.Path.{◌≡◌, refl}
use mathlib.Core.Bool.{true, or-true}
use mathlib.Core.List.{List, [], ◌∷◌, ◌++◌, append_assoc}
use borrow.Author.Tests.{le-leb, ne_eqb}
use Rattle.decimal.specs.Decimal.{value_from, value, digits}
use Rattle.decimal.proofs.DecimalLaws.{digit_written, value_from_append, tenth_below, value_last}
use Rattle.meinberg_gps_position.specs.Aligned.{are_digits, right_aligned, blank_or, padded, aligned}

-- ---- the number
blank_or_lem : (n : ℕ) → blank_or n - 48 ≡ n % 10
unfolding blank_or
blank_or_lem zero = refl
blank_or_lem (suc n) = rw (ne_eqb (suc n) 0 (λ e. omega arith)) (omega arith)

value_padded : (k n : ℕ) → n < 10 ^ k → value (padded k n) ≡ n
unfolding padded value_from
value_padded zero n h = omega arith
value_padded (suc k) n h =
    value_last (padded k (n / 10)) (blank_or n) n (value_padded k (n / 10) (tenth_below k n h)) (blank_or_lem n)

-- a number below 10 ^ k is what it is written as
pub value_aligned : (k n : ℕ) → n < 10 ^ k → value (aligned k n) ≡ n
unfolding aligned value_from
value_aligned zero n h = omega arith
value_aligned (suc k) n h =
    value_last (padded k (n / 10)) _ n (value_padded k (n / 10) (tenth_below k n h)) (omega arith)

-- ---- blanks and digits
pub high_first : (b c : ℕ) (s : List ℕ) → 48 < b → b < 58 → are_digits (c ∷ s) ≡ true → right_aligned (b ∷ c ∷ s) ≡ true
unfolding right_aligned
high_first b c s lo hi h = simp (le-leb 49 b (omega arith), le-leb b 57 (omega arith), h, or-true)

after_blanks : (k b : ℕ) (s : List ℕ) → right_aligned (b ∷ s) ≡ true → right_aligned (padded k 0 ++ (b ∷ s)) ≡ true
unfolding padded blank_or right_aligned
after_blanks zero b s h = h
after_blanks (suc k) b s h = rw append_assoc (after_blanks k 32 (b ∷ s) (rw h))

after_digits : (k n : ℕ) → 0 < n → n < 10 ^ k → (b : ℕ) (s : List ℕ) → are_digits (b ∷ s) ≡ true
    → right_aligned (padded k n ++ (b ∷ s)) ≡ true
unfolding padded blank_or are_digits
after_digits zero n some h b s d = absurd (omega arith)
after_digits (suc k) n some h b s d =
    rw (append_assoc, ne_eqb n 0 (λ e. omega arith))
    (elim (dec_lt n 10) [
      | yes one ↦
          let none : n / 10 ≡ 0 = omega arith in
          rw none (after_blanks k (48 + n % 10) (b ∷ s) (high_first (48 + n % 10) b s (omega arith) (omega arith) d))
      | no more ↦
          after_digits k (n / 10) (omega arith) (tenth_below k n h) (48 + n % 10) (b ∷ s) (rw (digit_written n) d)
    ])

-- a number below 10 ^ k is written right-aligned
pub aligned_right : (k n : ℕ) → 0 < k → n < 10 ^ k → right_aligned (aligned k n) ≡ true
unfolding aligned right_aligned are_digits
aligned_right zero n some h = absurd (omega arith)
aligned_right (suc k) n some h =
    elim (ℕ_discrete (n / 10) 0) [
      | yes none ↦ rw none (after_blanks k (48 + n % 10) [] (digit_written n))
      | no more ↦ after_digits k (n / 10) (omega arith) (tenth_below k n h) (48 + n % 10) [] (rw (digit_written n))
    ]

-- ---- digits after a number
pub four_digits : (n : ℕ) → are_digits (digits 4 n) ≡ true
unfolding are_digits digits
four_digits n = simp digit_written

pub value_after : (k n : ℕ) → value_from (n / 10 ^ k) (digits k n) ≡ n
unfolding value_from digits
value_after zero n = div-one n
value_after (suc k) n =
    rw (pow-succ' 10 k, ← (div-div-eq-div-mul n 10 (10 ^ k)), value_from_append, value_after k (n / 10)) (omega arith)
