-- Laws of filling outcomes in one pass, with the last gap kept.
use Prim.Native.Nat.{ℕ, ◌+◌, ◌<◌, ◌≤◌, zero-le}
use native.Mathlib.Omega.{arith}
use mathlib.Core.Path.{◌≡◌, refl, sym, ◌∙◌}
use mathlib.Core.List.{List, ◌++◌}
use mathlib.Core.Option.{Option, none, some}
use lib.ListN.{length, get_or, drop, set, length-set}
use Rattle.dcf77_outcome.specs.Number.{run_number}
use Rattle.recording.specs.Gaps.{gap_before}
use Rattle.recording.specs.Outcomes.{numbers}
use Rattle.recording.specs.Rule.{gap_number}
use Rattle.recording.specs.Recording.{rule}
use Rattle.recording.proofs.GapLaws.{before_start, before_gap, before_more}
use Rattle.recording.proofs.RuleLaws.{rule_none, rule_gap}
use Rattle.recording.proofs.OutcomeLaws.{fill_start, fill_more, fill_end}

-- outcomes o₀ were lent for marks m; o is what the places before i have been made, and g the gap that is kept
pub record Filled (m o₀ o : List ℕ) (g : Option ℕ) (i : ℕ) : Type 0 where
  pub within : i ≤ length m
  pub lent : length o₀ ≡ length m
  pub long : length o ≡ length m
  pub last : g ≡ gap_before m i
  pub done : o ≡ numbers (rule m) i ++ drop i o₀

pub filled_start : (m o : List ℕ) → length m ≡ length o → Filled m o o none 0
filled_start m o h =
    record {
      within = zero-le;
      lent = sym h;
      long = sym h;
      last = sym (before_start m 0 refl);
      done = fill_start (rule m) o;
    }

module _ {m o₀ o : List ℕ} {g : Option ℕ} {i : ℕ} (f : Filled m o₀ o g i) where
  more : (r : ℕ) (k : Option ℕ) → i < length m → r ≡ rule m i → k ≡ gap_before m (i + 1)
      → Filled m o₀ (set o i r) k (i + 1)
  more r k h e q =
      record {
        within = omega arith;
        lent = f.lent;
        long = length-set o i r ∙ f.long;
        last = q;
        done = fill_more (rule m) o₀ o i r (omega (arith, f.lent)) f.done e;
      }

  pub filled_gap : {r : ℕ} → i < length m → get_or m i 0 ≡ 2 → r ≡ gap_number run_number m i g
      → Filled m o₀ (set o i r) (some i) (i + 1)
  filled_gap {r} h e q =
      more r (some i) h (q ∙ sym (rule_gap run_number m i g e (sym f.last)))
      (sym (before_gap m (i + 1) i (omega arith) e))

  pub filled_none : i < length m → (get_or m i 0 ≡ 2 → ⊥) → Filled m o₀ (set o i 0) g (i + 1)
  filled_none h n =
      more 0 g h (sym (rule_none run_number m i n)) (f.last ∙ sym (before_more m (i + 1) i (omega arith) n))

  pub filled_end : length m ≤ i → o ≡ numbers (rule m) (length m)
  filled_end h =
      fill_end (rule m) o₀ o i (length m) (sym f.lent) (omega (arith, f.within)) f.done
