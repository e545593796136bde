-- The sheet's rule in words, with none of the code's functions in them.
use Rattle.std.specs.Prelude.{ℕ, ◌<◌, ◌≡◌, List, length, get_or}
use Rattle.dcf77_outcome.specs.RunNumber.{RunNumber}
use Rattle.recording.specs.Gaps.{NearestGapBefore}
use Rattle.recording.specs.Rule.{run_between}

-- "Mark 0 short (100 ms), 1 long (200 ms), 2 gap" (01, DCF77 marks)
abbrev pub IsGap : List ℕ → ℕ → Type 0
IsGap marks place = get_or marks place 0 ≡ 2

-- n is the number that the rule gives the place
pub record SheetNumber (marks : List ℕ) (place n : ℕ) : Type 0 where
  -- "Sheet number: 0 where there is no gap" (01, Tape and sheet)
  pub no_gap : (IsGap marks place → ⊥) → n ≡ 0
  -- 10: "gap with no earlier gap on the tape"; "on a tape 10 comes before these" (01, Refusal numbers)
  pub is_first_gap : IsGap marks place → ((i : ℕ) → i < place → IsGap marks i → ⊥) → n ≡ 10
  -- "at a gap the refusal number; or, accepted, 100 + [..]" (01, Tape and sheet): the number of the run between the
  -- nearest earlier gap and this one
  pub later_gap : IsGap marks place → (gap : ℕ) → NearestGapBefore marks place gap
      → RunNumber (run_between marks gap place) n

-- "A sheet is right for a tape where the two are equally long and every place holds the number that this rule gives
-- there." (01, Tape and sheet)
pub record RightFor (marks outcomes : List ℕ) : Type 0 where
  pub long : length outcomes ≡ length marks
  pub each : (i : ℕ) → i < length marks → SheetNumber marks i (get_or outcomes i 0)
