-- Demand 2 of a reader's answer, and of a writer's answer with the buffer at exit, in the library and from C.
use Rattle.std.specs.Prelude.{ℕ, suc, ◌≤◌, ◌≡◌, ◌↔◌, List, ◌++◌, length, drop, ℤ}
use Rattle.clock_time.specs.Errors.{Answer, accepted, refused}
use Rattle.clock_time.specs.Exit.{exit}
use Rattle.clock_time.specs.Called.{Called, called}
use Rattle.clock_time.specs.Writing.{Written}

-- "A string or a DCF77 minute is accepted exactly when the rules in document 01 hold, and then every field, offset and
-- flag is the one those rules give." (demand 2): `Accepts a` says that these rules hold, and that a is what they give
abbrev pub ReadsExactly : {A : Type 0} → (A → Type 0) → Answer A → Type 0
ReadsExactly {A} Accepts answer = (a : A) → (answer ≡ accepted a) ↔ Accepts a

-- a writer's answer and the buffer at exit; `Reads s` says that s is accepted as what was to be written
pub record WritesExactly (Reads : List ℕ → Type 0) (buffer : List ℕ) (e : Written) : Type 0 where
  -- "Written back, an accepted reading gives the same bytes or marks." (demand 2), and nothing after them changes
  pub write_read : (s : List ℕ) → Reads s → length s ≤ length buffer
      → e ≡ exit (accepted (length s)) (s ++ drop (length s) buffer)
  -- "Given room enough, a writer refuses a reading exactly when nothing acceptable in that format reads as it."
  -- (demand 2)
  pub refused_exactly : ((s : List ℕ) → Reads s → length s ≤ length buffer)
      → ((k : ℕ) × (e.answer ≡ refused k)) ↔ ((s : List ℕ) → Reads s → ⊥)

-- ---- from C
-- a call whose answer goes behind a pointer: it leaves the status 0 and a there exactly if a is what the rules give
abbrev pub CallAnswersExactly : {A : Type 0} → (A → Type 0) → Called A → Type 0
CallAnswersExactly {A} Accepts c = (a : A) → (c ≡ called 0 a) ↔ Accepts a

-- a call that reads into numbers: it leaves the status 0 and the numbers z exactly if the rules hold of some value,
-- there is room for its numbers, and z has these in front and after them what was lent
abbrev pub CallReadsExactly : {A : Type 0} → (A → List ℤ) → (A → Type 0) → List ℤ → Called (List ℤ) → Type 0
CallReadsExactly {A} numbers Accepts fields c =
    (z : List ℤ) → (c ≡ called 0 z)
    ↔ ((a : A) × (
    Accepts a × (length (numbers a) ≤ length fields) × (z ≡ numbers a ++ drop (length (numbers a)) fields)
    ))

-- `WritesExactly` of a call, which leaves the number of places filled behind a pointer
pub record CallWritesExactly (Reads : List ℕ → Type 0) (buffer : List ℕ) (c : Called (List ℕ × ℕ)) : Type 0 where
  pub write_read : (s : List ℕ) → Reads s → length s ≤ length buffer
      → c ≡ called 0 (s ++ drop (length s) buffer, length s)
  pub refused_exactly : ((s : List ℕ) → Reads s → length s ≤ length buffer)
      → ((k : ℕ) × (c.status ≡ suc k)) ↔ ((s : List ℕ) → Reads s → ⊥)
