-- Demand 3: "A day's marks lie on a tape, with a sheet of one number for each second. Whatever tape and sheet are lent,
-- and whichever place and new mark are named, this holds after a correction that isn't refused. The tape has the new
-- mark at that place and its old mark at every other. The sheet's number at that place, and at the first gap after it
-- if there is one, is the one that document 01's rule gives for the corrected tape, whatever the sheet held before.
-- Every other number on the sheet is unchanged. So if the sheet was right for the old tape, it is right at every place
-- for the new one. The count returned is exactly how many places of the sheet hold another number than before."
-- `Corrected` has a named part for each of these sentences. The functions in src/ have these statements as their
-- contracts.
use Prim.Native.Nat.{ℕ, ◌<◌, ◌≤◌}
use mathlib.Core.Path.{◌≡◌}
use mathlib.Core.Logic.{◌↔◌}
use mathlib.Core.List.{List}
use lib.ListN.{length, set}
use Rattle.clock_time.specs.Errors.{accepted}
use Rattle.clock_time.specs.Exit.{exit}
use Rattle.clock_time.specs.Called.{called, called_answer, called_memory, called_both}
use Rattle.recording.specs.Demand.{Corrected}
use Rattle.recording.specs.Gaps.{FirstGapAfter}
use Rattle.recording.specs.Recording.{outcome_at, fill_outcomes, recorded, correct_mark}
use Rattle.recording.proofs.Theorems as recordings
use Rattle.recording.specs.SheetNumber.{RightFor}
use Rattle.demands.specs.OutcomeAt.{OutcomeAt}
use Rattle.demands.specs.Exactly.{ReadsExactly, CallAnswersExactly}
use Rattle.demands.proofs.SheetLaws as sheets
use Rattle.demands.proofs.ReaderLaws.{call_answers}

-- ---- the correction of a mark
pub correct_mark_lem : (marks outcomes : List ℕ) (place mark : ℕ) (marks' outcomes' : List ℕ) (count : ℕ)
    → exit (accepted count) (recorded marks' outcomes') ≡ correct_mark marks outcomes place mark
    → Corrected marks outcomes place mark marks' outcomes' count
correct_mark_lem = recordings.demand_3

-- from C, with the count behind a pointer
pub c_correct_mark : (marks outcomes : List ℕ) (place mark : ℕ) (marks' outcomes' : List ℕ) (old count : ℕ)
    → called 0 (recorded marks' outcomes', count) ≡ called_both old (correct_mark marks outcomes place mark)
    → Corrected marks outcomes place mark marks' outcomes' count
c_correct_mark marks outcomes place mark marks' outcomes' old count h =
    correct_mark_lem marks outcomes place mark marks' outcomes' count
    (sheets.both_exit _ old _ count (sheets.correct_0 marks outcomes place mark) h)

-- "the old and the corrected tape have the same one" (01, Tape and sheet), a first gap after the place
pub same_first_gap : (marks : List ℕ) (place mark gap : ℕ)
    → FirstGapAfter marks place gap ↔ FirstGapAfter (set marks place mark) place gap
same_first_gap = recordings.same_first_gap

-- 20: "sheet and tape lengths differ, tape over 100,000"; 21: "place at or past the tape's end"; 22: "new mark above 3"
-- (01, Refusal numbers): nothing else is refused
pub not_refused : (marks outcomes : List ℕ) (place mark : ℕ) → length marks ≡ length outcomes
    → length marks ≤ 100000 → place < length marks → mark ≤ 3
    → (count : ℕ) × ((correct_mark marks outcomes place mark).answer ≡ accepted count)
not_refused = recordings.correction_accepted

-- ---- the sheet's rule, at a place and at all
pub outcome_at_lem : (marks : List ℕ) (place : ℕ) → ReadsExactly (OutcomeAt marks place) (outcome_at marks place)
outcome_at_lem = sheets.outcome_exactly

pub c_outcome_at : (old : ℕ) (marks : List ℕ) (place : ℕ)
    → CallAnswersExactly (OutcomeAt marks place) (called_answer old (outcome_at marks place))
c_outcome_at old marks place = call_answers old _ (sheets.outcome_0 marks place) (outcome_at_lem marks place)

pub fill_outcomes_lem : (marks outcomes outcomes' : List ℕ) → exit (accepted tt) outcomes' ≡ fill_outcomes marks outcomes
    → RightFor marks outcomes'
fill_outcomes_lem = recordings.filled_right

pub c_fill_outcomes : (marks outcomes outcomes' : List ℕ)
    → called 0 outcomes' ≡ called_memory (fill_outcomes marks outcomes)
    → RightFor marks outcomes'
c_fill_outcomes marks outcomes outcomes' h =
    fill_outcomes_lem marks outcomes outcomes' (sheets.memory_exit _ _ (sheets.fill_0 marks outcomes) h).1
