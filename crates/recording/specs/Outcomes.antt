-- Outcomes, the paper's sheet: a number for each place, under any rule that gives a place its number.
use Rattle.std.specs.Prelude.{ℕ, zero, suc, ◌+◌, ◌<◌, ◌≡◌, cond, List, [], ◌∷◌, ◌++◌, eqb, length, get_or, set}

-- "A sheet is right for a tape where the two are equally long and every place holds the number that this rule gives
-- there." (01, Tape and sheet)
pub record Right (rule : ℕ → ℕ) (n : ℕ) (outcomes : List ℕ) : Type 0 where
  pub long : length outcomes ≡ n
  pub each : (i : ℕ) → i < n → get_or outcomes i 0 ≡ rule i

-- the rule's numbers at the first n places
unfoldable pub numbers : (ℕ → ℕ) → ℕ → List ℕ
numbers rule zero = []
numbers rule (suc n) = numbers rule n ++ (rule n ∷ [])

-- the rule's number at some places, and at every other the old one
abbrev pub mended : (ℕ → ℕ) → List ℕ → List ℕ → List ℕ
mended rule outcomes [] = outcomes
mended rule outcomes (i ∷ places) = mended rule (set outcomes i (rule i)) places

-- 1 for two numbers that differ, else 0
unfoldable pub differ : ℕ → ℕ → ℕ
differ x y = cond (eqb x y) 0 1

-- "the number of places at which the sheet after it differs from the sheet before it" (01, Tape and sheet)
unfoldable pub differences : List ℕ → List ℕ → ℕ
differences [] after = 0
differences (x ∷ before) [] = 0
differences (x ∷ before) (y ∷ after) = differ x y + differences before after
