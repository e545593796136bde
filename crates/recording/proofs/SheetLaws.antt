-- The rule gives each place the number that it has in words, and a sheet is right if it is so in words.
use Prim.Native.Nat.{ℕ}
use native.Mathlib.Decide.{ℕ_discrete}
use mathlib.Core.Path.{◌≡◌, refl, sym, ◌∙◌}
use mathlib.Core.Logic.{◌↔◌}
use mathlib.Core.List.{List}
use mathlib.Core.Option.{Option, none, some}
use lib.ListN.{length, get_or}
use Rattle.dcf77_outcome.specs.Number.{run_number}
use Rattle.dcf77_outcome.proofs.Theorems.{run_number_exactly}
use Rattle.recording.specs.Gaps.{gap_before}
use Rattle.recording.specs.Rule.{run_between}
use Rattle.recording.specs.Recording.{rule}
use Rattle.recording.specs.Outcomes.{Right}
use Rattle.recording.specs.SheetNumber.{SheetNumber, RightFor}
use Rattle.recording.proofs.GapLaws.{before_none, before_is_nearest, nearest_is_before, none_before}
use Rattle.recording.proofs.RuleLaws.{rule_none, rule_gap}

module _ (m : List ℕ) (p n : ℕ) where
  rule_says : rule m p ≡ n → SheetNumber m p n
  rule_says e =
      record {
        no_gap = λ d. sym e ∙ rule_none run_number m p d;
        is_first_gap = λ q d. sym e ∙ rule_gap run_number m p none q (none_before m p d);
        later_gap = λ q g b.
            (run_number_exactly (run_between m g p) n).0
            (sym (rule_gap run_number m p (some g) q (nearest_is_before m p g b)) ∙ e);
      }

  says_rule : SheetNumber m p n → rule m p ≡ n
  says_rule w =
      elim (ℕ_discrete (get_or m p 0) 2) [
        | no d ↦ rule_none run_number m p d ∙ sym (w.no_gap d)
        | yes q ↦ at_gap q (gap_before m p) refl
      ]
    where
      at_gap : get_or m p 0 ≡ 2 → (x : Option ℕ) → gap_before m p ≡ x → rule m p ≡ n
      at_gap q none e = rule_gap run_number m p none q e ∙ sym (w.is_first_gap q (before_none m p e))
      at_gap q (some g) e =
          rule_gap run_number m p (some g) q e
          ∙ (run_number_exactly (run_between m g p) n).1 (w.later_gap q g (before_is_nearest m p g e))

  pub rule_exactly : (rule m p ≡ n) ↔ SheetNumber m p n
  rule_exactly = (rule_says, says_rule)

pub right_exactly : (m o : List ℕ) → Right (rule m) (length m) o ↔ RightFor m o
right_exactly m o = (
  λ r. record { long = r.long; each = λ i h. (rule_exactly m i _).0 (sym (r.each i h)) },
  λ r. record { long = r.long; each = λ i h. sym ((rule_exactly m i _).1 (r.each i h)) },
)
