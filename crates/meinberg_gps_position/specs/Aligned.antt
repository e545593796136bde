-- Right-aligned numbers, with blanks for leading zeros.
use Rattle.std.specs.Prelude.{ℕ, zero, suc, ◌+◌, ◌/◌, ◌%◌, Bool, true, false, cond, ◌&&◌, ◌||◌, List, [], ◌∷◌, ◌++◌, leb, eqb}
use Rattle.decimal.specs.Decimal.{is_digit}

-- each byte is a digit
unfoldable pub are_digits : List ℕ → Bool
are_digits [] = true
are_digits (b ∷ s) = is_digit b && are_digits s

-- "right-aligned with blanks for leading zeros, the last whole digit always present, a needless zero refused" (01,
-- Meinberg and ELV strings): blanks, then digits of which the first is no zero, unless it is the last
unfoldable pub right_aligned : List ℕ → Bool
right_aligned [] = false
right_aligned (b ∷ []) = is_digit b
right_aligned (b ∷ c ∷ s) = eqb b 32 && right_aligned (c ∷ s) || leb 49 b && leb b 57 && are_digits (c ∷ s)

-- what such a number is made of
unfoldable pub digits_or_blanks : List ℕ → Bool
digits_or_blanks [] = true
digits_or_blanks (b ∷ s) = (is_digit b || eqb b 32) && digits_or_blanks s

-- a blank for 0, else the last digit of n
unfoldable pub blank_or : ℕ → ℕ
blank_or n = cond (eqb n 0) 32 (48 + n % 10)

-- the last k decimal digits of n, with a blank at each place where the number up to it is 0
unfoldable pub padded : ℕ → ℕ → List ℕ
padded zero n = []
padded (suc k) n = padded k (n / 10) ++ (blank_or n ∷ [])

-- the same, but the last is always a digit
unfoldable pub aligned : ℕ → ℕ → List ℕ
aligned zero n = []
aligned (suc k) n = padded k (n / 10) ++ ((48 + n % 10) ∷ [])
