-- A number in decimal.
use Rattle.std.specs.Prelude.{ℕ, zero, suc, ◌+◌, ◌/◌, ◌%◌, cond, List, [], ◌∷◌, ◌++◌, ltb}

-- a number of at most k + 1 digits in decimal, with no zero in front
unfoldable pub numeral_within : ℕ → ℕ → List ℕ
numeral_within zero n = (48 + n % 10) ∷ []
numeral_within (suc k) n = cond (ltb n 10) ((48 + n % 10) ∷ []) (numeral_within k (n / 10) ++ ((48 + n % 10) ∷ []))

-- a number of 64 bits in decimal, which has at most 20 digits
abbrev pub numeral : ℕ → List ℕ
numeral n = numeral_within 19 n
