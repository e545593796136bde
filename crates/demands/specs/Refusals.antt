-- Demand 1 of an answer: refusals in the order of a table's lines, and lent memory kept.
use Rattle.std.specs.Prelude.{ℕ, suc, ◌≡◌, ◌↔◌, true, List, [], ◌∷◌}
use Rattle.clock_time.specs.Errors.{Answer, accepted, refused, Check}
use Rattle.clock_time.specs.Exit.{Exit}
use Rattle.clock_time.specs.Called.{Called}
use Rattle.clock_time.specs.Order.{Line, line, numbers_of, Gives, NoneHolds}

-- "each public entry ends with its answer or with one numbered refusal, in the order document 01 gives" (demand 1)
pub record RefusesInOrder {A : Type 0} (lines : List Line) (order : List ℕ) (answer : Answer A) : Type 0 where
  pub numbers : numbers_of lines ≡ order
  -- "Each number is given when its line holds and no earlier one does, and never otherwise." (01, Refusal numbers)
  pub refused_exactly : (n : ℕ) → (answer ≡ refused n) ↔ Gives lines n
  pub accepted_exactly : ((a : A) × (answer ≡ accepted a)) ↔ NoneHolds lines

-- "A refusal hands back its number and nothing else, and changes no byte or number of the memory we lent." (demand 1)
pub record RefusesAndKeeps {A M : Type 0} (lines : List Line) (order : List ℕ) (old : M) (e : Exit A M) : Type 0 where
  pub ordered : RefusesInOrder lines order e.answer
  pub kept : (n : ℕ) → e.answer ≡ refused n → e.memory ≡ old

-- the same of a call from C, whose status is 0 if nothing is refused, else the refusal's number
pub record CallRefusesAndKeeps {M : Type 0} (lines : List Line) (order : List ℕ) (old : M) (c : Called M) : Type 0
  where
    pub numbers : numbers_of lines ≡ order
    pub refused_exactly : (n : ℕ) → (c.status ≡ suc n) ↔ Gives lines (suc n)
    pub accepted_exactly : (c.status ≡ 0) ↔ NoneHolds lines
    pub kept : (c.status ≡ 0 → ⊥) → c.memory ≡ old

-- ---- for functions that no user calls, but that refuse: the lines are their tests
-- a test as a line: it holds if the test fails
abbrev pub tests : List Check → List Line
tests [] = []
tests (k ∷ ks) = line k.number (k.fails ≡ true) ∷ tests ks
