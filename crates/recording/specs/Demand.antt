-- Demand 3: what holds after a correction that isn't refused, with each of its sentences at the fields that say it.
use Rattle.std.specs.Prelude.{ℕ, ◌≡◌, List, length, get_or}
use Rattle.recording.specs.Gaps.{FirstGapAfter}
use Rattle.recording.specs.Outcomes.{differences}
use Rattle.recording.specs.SheetNumber.{SheetNumber, RightFor}

-- `marks` and `outcomes` were lent, `place` and `mark` named; `marks'` and `outcomes'` are left, `count` is returned
pub record Corrected
    (marks outcomes : List ℕ) (place mark : ℕ) (marks' outcomes' : List ℕ) (count : ℕ) : Type 0 where
  -- "The tape has the new mark at that place and its old mark at every other." (demand 3); "The corrected tape is the
  -- old one with the new mark at the place named." (01, Tape and sheet)
  pub marks_long : length marks' ≡ length marks
  pub mark_here : get_or marks' place 0 ≡ mark
  pub mark_elsewhere : (i : ℕ) → (i ≡ place → ⊥) → get_or marks' i 0 ≡ get_or marks i 0
  -- "The sheet's number at that place, and at the first gap after it if there is one, is the one that document 01's
  -- rule gives for the corrected tape, whatever the sheet held before."
  pub outcome_here : SheetNumber marks' place (get_or outcomes' place 0)
  pub outcome_first_gap : (g : ℕ) → FirstGapAfter marks' place g → SheetNumber marks' g (get_or outcomes' g 0)
  -- "Every other number on the sheet is unchanged."
  pub outcomes_long : length outcomes' ≡ length outcomes
  pub outcome_elsewhere : (i : ℕ) → (i ≡ place → ⊥) → (FirstGapAfter marks' place i → ⊥)
      → get_or outcomes' i 0 ≡ get_or outcomes i 0
  -- "So if the sheet was right for the old tape, it is right at every place for the new one."
  pub right : RightFor marks outcomes → RightFor marks' outcomes'
  -- "The count returned is exactly how many places of the sheet hold another number than before."
  pub counted : count ≡ differences outcomes outcomes'
