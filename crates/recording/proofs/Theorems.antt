-- The crate's main results, of what its contracts say: `correction r marks' outcomes' ≡ correct_mark ..` and `filling r
-- outcomes' ≡ fill_outcomes ..` hold of the answer r and of the memory at exit.
use Prim.Native.Nat.{ℕ, ◌<◌, ◌≤◌}
use mathlib.Core.Path.{◌≡◌}
use mathlib.Core.Logic.{◌↔◌}
use mathlib.Core.List.{List}
use lib.ListN.{length, get_or, set}
use Rattle.std.specs.Prelude.{Ok, Err}
use Rattle.clock_time.specs.Errors.{accepted}
use Rattle.clock_time.specs.declared.Error.{Error}
use Rattle.recording.specs.Gaps.{FirstGapAfter}
use Rattle.recording.specs.Outcomes.{numbers, differences}
use Rattle.recording.specs.Recording.{rule, outcome_at, filling, fill_outcomes, correction, correct_mark}
use Rattle.recording.specs.SheetNumber.{SheetNumber, RightFor}
use Rattle.recording.specs.Demand.{Corrected}
use Rattle.recording.proofs.GapLaws.{first_set}
use Rattle.recording.proofs.OutcomeLaws.{right_numbers}
use Rattle.recording.proofs.SheetLaws.{rule_exactly, right_exactly}
use Rattle.recording.proofs.RecordingLaws.{outcome_fits, fill_kept, fill_right, fill_fits}
use Rattle.recording.proofs.RecordingLaws.{correct_kept, correct_fits}
use Rattle.recording.proofs.DemandLaws.{correct_corrected}

-- ---- the correction of a mark
module _ (marks outcomes : List ℕ) (place mark : ℕ) (marks' outcomes' : List ℕ) where
  -- demand 3, of every correction that isn't refused
  pub demand_3 : (count : ℕ)
      → correction (Ok count) marks' outcomes' ≡ correct_mark marks outcomes place mark
      → Corrected marks outcomes place mark marks' outcomes' count
  demand_3 count h = correct_corrected marks outcomes place mark marks' outcomes' count h

  -- "So if the sheet was right for the old tape, it is right at every place for the new one." (demand 3)
  pub right_stays_right : (count : ℕ)
      → correction (Ok count) marks' outcomes' ≡ correct_mark marks outcomes place mark
      → RightFor marks outcomes → RightFor marks' outcomes'
  right_stays_right count h = (demand_3 count h).right

  -- and then it is the sheet that filling makes of the new tape
  pub correct_is_fill : (count : ℕ)
      → correction (Ok count) marks' outcomes' ≡ correct_mark marks outcomes place mark
      → RightFor marks outcomes → outcomes' ≡ numbers (rule marks') (length marks')
  correct_is_fill count h r =
      right_numbers (rule marks') (length marks') outcomes'
      ((right_exactly marks' outcomes').1 (right_stays_right count h r))

  -- "The count returned is exactly how many places of the sheet hold another number than before." (demand 3)
  pub count_exact : (count : ℕ)
      → correction (Ok count) marks' outcomes' ≡ correct_mark marks outcomes place mark
      → count ≡ differences outcomes outcomes'
  count_exact count h = (demand_3 count h).counted

  -- "A refusal [..] changes no byte or number of the memory we lent." (demand 1)
  pub refused_correction_changes_nothing : (e : Error)
      → correction (Err e) marks' outcomes' ≡ correct_mark marks outcomes place mark
      → (marks' ≡ marks) × (outcomes' ≡ outcomes)
  refused_correction_changes_nothing e h = correct_kept marks outcomes place mark marks' outcomes' e h

-- a correction is refused for no other reason than those of 20, 21 and 22
pub correction_accepted : (marks outcomes : List ℕ) (place mark : ℕ) → length marks ≡ length outcomes
    → length marks ≤ 100000 → place < length marks → mark ≤ 3
    → (count : ℕ) × ((correct_mark marks outcomes place mark).answer ≡ accepted count)
correction_accepted marks outcomes place mark l h p v = correct_fits marks outcomes place mark l h p v

-- "the old and the corrected tape have the same one" (01, Tape and sheet)
pub same_first_gap : (marks : List ℕ) (place mark gap : ℕ)
    → FirstGapAfter marks place gap ↔ FirstGapAfter (set marks place mark) place gap
same_first_gap marks place mark gap = first_set marks place mark gap

-- ---- the outcomes of a recording
module _ (marks outcomes outcomes' : List ℕ) where
  pub filled_right : filling (Ok tt) outcomes' ≡ fill_outcomes marks outcomes
      → RightFor marks outcomes'
  filled_right h = (right_exactly marks outcomes').0 (fill_right marks outcomes outcomes' h)

  -- every place holds what `outcome_at` answers there
  pub filled_outcome_at : filling (Ok tt) outcomes' ≡ fill_outcomes marks outcomes
      → (i : ℕ) → i < length marks → outcome_at marks i ≡ accepted (get_or outcomes' i 0)
  filled_outcome_at h i l =
      rw ((fill_right marks outcomes outcomes' h).each i l)
      (outcome_fits marks i (fill_fits marks outcomes outcomes' h) l)

  pub refused_filling_changes_nothing : (e : Error)
      → filling (Err e) outcomes' ≡ fill_outcomes marks outcomes → outcomes' ≡ outcomes
  refused_filling_changes_nothing e h = fill_kept marks outcomes outcomes' e h

-- ---- the rule
-- "Sheet number: 0 where there is no gap; at a gap the refusal number; or, accepted, 100 + [..]" (01, Tape and sheet):
-- the rule gives each place the number in words, and no other
pub rule_in_words : (marks : List ℕ) (place n : ℕ) → (rule marks place ≡ n) ↔ SheetNumber marks place n
rule_in_words = rule_exactly
