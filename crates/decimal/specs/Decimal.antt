-- Decimal digits: the number that a run of digits stands for, and the digits of a number.
use Rattle.std.specs.Prelude.{ℕ, zero, suc, ◌+◌, ◌-◌, ◌*◌, ◌/◌, ◌%◌, Bool, cond, ◌&&◌, List, [], ◌∷◌, ◌++◌, leb}

-- the bytes `0` to `9`
unfoldable pub is_digit : ℕ → Bool
is_digit b = leb 48 b && leb b 57

-- the place of the first byte that is no digit, the length if there is none
unfoldable pub first_non_digit : List ℕ → ℕ
first_non_digit [] = 0
first_non_digit (b ∷ s) = cond (is_digit b) (suc (first_non_digit s)) 0

-- the number whose digits are those of n and then s
unfoldable pub value_from : ℕ → List ℕ → ℕ
value_from n [] = n
value_from n (b ∷ s) = value_from (10 * n + (b - 48)) s

-- the number that digits stand for
abbrev pub value : List ℕ → ℕ
value s = value_from 0 s

-- the last k decimal digits of n, highest first
unfoldable pub digits : ℕ → ℕ → List ℕ
digits zero n = []
digits (suc k) n = digits k (n / 10) ++ ((48 + n % 10) ∷ [])
