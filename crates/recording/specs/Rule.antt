-- The rule that gives each place of a recording its number, over any number of a run.
use Rattle.std.specs.Prelude.{ℕ, suc, cond, get_or, take, drop}
use mathlib.Core.List.{List, ◌∷◌, Option-to_list}
use Rattle.std.proofs.Math.Option.{Option, none, some}
use Rattle.recording.specs.Gaps.{is_gap, gap_before, gap_after}

-- "The run at a gap is what lies between it and the nearest earlier gap." (01, DCF77 marks)
abbrev pub run_between : List ℕ → ℕ → ℕ → List ℕ
run_between marks earlier place = drop (suc earlier) (take place marks)

-- 10: "gap with no earlier gap on the tape"; "on a tape 10 comes before these" (01, Refusal numbers)
abbrev pub gap_number : (List ℕ → ℕ) → List ℕ → ℕ → Option ℕ → ℕ
gap_number number marks place none = 10
gap_number number marks place (some earlier) = number (run_between marks earlier place)

-- "Sheet number: 0 where there is no gap; at a gap the refusal number; or, accepted, 100 + [..]. This rule never looks
-- at a sheet." (01, Tape and sheet)
unfoldable pub rule_by : (List ℕ → ℕ) → List ℕ → ℕ → ℕ
rule_by number marks place =
    cond (is_gap (get_or marks place 0)) (gap_number number marks place (gap_before marks place)) 0

-- "at that place, and at the first gap after it if there is one" (demand 3)
unfoldable pub reached : List ℕ → ℕ → List ℕ
reached marks place = place ∷ Option-to_list (gap_after marks place)
