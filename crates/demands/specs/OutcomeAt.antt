-- The number at a place of a recording, as an answer.
use Rattle.std.specs.Prelude.{ℕ, ◌≤◌, ◌<◌, List, length}
use Rattle.recording.specs.SheetNumber.{SheetNumber}

-- "Sheet number: [..]" (01, Tape and sheet), of a place that is on a tape of at most 100,000 marks
pub record OutcomeAt (marks : List ℕ) (place n : ℕ) : Type 0 where
  pub not_too_long : length marks ≤ 100000
  pub within : place < length marks
  pub number : SheetNumber marks place n
