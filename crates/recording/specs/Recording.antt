-- What the crate's functions answer, and leave of the memory lent to them.
use Rattle.std.specs.Prelude.{ℕ, Result, Bool, not, ◌||◌, List, [], ◌∷◌, eqb, leb, ltb, length, set}
use Rattle.clock_time.specs.Errors.{Answer, Check, given, checked}
use Rattle.clock_time.specs.Reading.{answer_of}
use Rattle.clock_time.specs.declared.Error.{Error}
use Rattle.clock_time.specs.Exit.{Exit, exit, leaves}
use Rattle.dcf77_outcome.specs.Number.{run_number}
use Rattle.recording.specs.Outcomes.{numbers, mended, differences}
use Rattle.recording.specs.Rule.{rule_by, reached}

-- ---- the number at a place
-- "Sheet number: 0 where there is no gap; at a gap the refusal number; or, accepted, 100 + [..]" (01, Tape and sheet)
abbrev pub rule : List ℕ → ℕ → ℕ
rule marks place = rule_by run_number marks place

-- 20: "lent memory: [..] tape over 100,000"; 21: "place at or past the tape's end" (01, Refusal numbers)
unfoldable pub outcome_at : List ℕ → ℕ → Answer ℕ
outcome_at marks place =
    checked (given 20 (ltb 100000 (length marks)) ∷ given 21 (leb (length marks) place) ∷ []) (rule marks place)

-- 20: "lent memory: sheet and tape lengths differ, tape over 100,000" (01, Refusal numbers)
abbrev pub unfit : ℕ → ℕ → Bool
unfit marks outcomes = not (eqb marks outcomes) || ltb 100000 marks

-- ---- the number at every place
-- the answer, with the outcomes at exit
abbrev pub filling : Result (Unit {0}) Error → List ℕ → Exit (Unit {0}) (List ℕ)
filling r outcomes = exit (answer_of r) outcomes

-- the outcomes that are right: "the two are equally long and every place holds the number that this rule gives there"
-- (01, Tape and sheet); "The tape may be empty." (01, Tape and sheet)
unfoldable pub fill_outcomes : List ℕ → List ℕ → Exit (Unit {0}) (List ℕ)
fill_outcomes marks outcomes =
    leaves outcomes (numbers (rule marks) (length marks))
    (checked (given 20 (unfit (length marks) (length outcomes)) ∷ []) tt)

-- ---- the correction of a mark
-- a recording with its outcomes
pub record Recorded : Type 0 where
  pub marks : List ℕ
  pub outcomes : List ℕ

-- marks and outcomes, as one value
abbrev pub recorded : List ℕ → List ℕ → Recorded
recorded marks outcomes = record { marks = marks; outcomes = outcomes }

-- the answer, with the marks and the outcomes at exit
abbrev pub correction : Result ℕ Error → List ℕ → List ℕ → Exit ℕ Recorded
correction r marks outcomes = exit (answer_of r) (recorded marks outcomes)

-- "For a correction: 20, 21, 22."; 21: "place at or past the tape's end"; 22: "new mark above 3" (01, Refusal numbers)
abbrev pub correction_checks : List ℕ → List ℕ → ℕ → ℕ → List Check
correction_checks marks outcomes place mark =
    given 20 (unfit (length marks) (length outcomes))
    ∷ given 21 (leb (length marks) place)
    ∷ given 22 (ltb 3 mark)
    ∷ []

-- "brings the sheet up to date as demand 3 says" (01, Tape and sheet), for marks that were changed at a place
abbrev pub updated : List ℕ → List ℕ → ℕ → List ℕ
updated marks outcomes place = mended (rule marks) outcomes (reached marks place)

-- "The corrected tape is the old one with the new mark at the place named. A correction puts the new mark on the tape
-- and brings the sheet up to date as demand 3 says. Its count is the number of places at which the sheet after it
-- differs from the sheet before it." (01, Tape and sheet)
unfoldable pub correct_mark : List ℕ → List ℕ → ℕ → ℕ → Exit ℕ Recorded
correct_mark marks outcomes place mark =
    let marks' = set marks place mark in
    let outcomes' = updated marks' outcomes place in
    leaves (recorded marks outcomes) (recorded marks' outcomes')
    (checked (correction_checks marks outcomes place mark) (differences outcomes outcomes'))
