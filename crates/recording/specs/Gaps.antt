-- The gaps of a recording, the paper's tape: the list of its marks. "Places on a tape count from 0 too." (01, Tape and
-- sheet)
use Rattle.std.specs.Prelude.{ℕ, zero, suc, ◌<◌, ◌≡◌, Bool, cond, List, [], ◌∷◌, eqb, get_or, drop}
use Rattle.std.specs.Prelude as Prelude
use Rattle.std.proofs.Math.Option.{Option, none, some}

-- "Mark 0 short (100 ms), 1 long (200 ms), 2 gap, 3 and any larger byte on a tape unsure." (01, DCF77 marks)
abbrev pub is_gap : ℕ → Bool
is_gap mark = eqb mark 2

-- "the nearest earlier gap" (01, DCF77 marks)
unfoldable pub gap_before : List ℕ → ℕ → Option ℕ
gap_before marks zero = none
gap_before marks (suc i) = cond (is_gap (get_or marks i 0)) (some i) (gap_before marks i)

-- the first gap among marks of which the first lies at place i
unfoldable pub first_gap : List ℕ → ℕ → Option ℕ
first_gap [] i = none
first_gap (mark ∷ marks) i = cond (is_gap mark) (some i) (first_gap marks (suc i))

-- "The first gap after a place" (01, Tape and sheet), found
unfoldable pub gap_after : List ℕ → ℕ → Option ℕ
gap_after marks place = first_gap (drop (suc place) marks) (suc place)

-- "The first gap after a place is the nearest later place whose mark is 2" (01, Tape and sheet), in the paper's words
pub record FirstGapAfter (marks : List ℕ) (place gap : ℕ) : Type 0 where
  pub later : place < gap
  pub mark : get_or marks gap 0 ≡ 2
  pub nearest : (i : ℕ) → place < i → i < gap → get_or marks i 0 ≡ 2 → ⊥

-- "The run at a gap is what lies between it and the nearest earlier gap." (01, DCF77 marks): which gap that is, in the
-- paper's words
pub record NearestGapBefore (marks : List ℕ) (place gap : ℕ) : Type 0 where
  pub earlier : gap < place
  pub mark : get_or marks gap 0 ≡ 2
  pub nearest : (i : ℕ) → gap < i → i < place → get_or marks i 0 ≡ 2 → ⊥

-- the place that the code's answer names, if it names one
abbrev pub gap_of : Prelude.Option ℕ → Option ℕ
gap_of Prelude.None = none
gap_of (Prelude.Some gap) = some gap
