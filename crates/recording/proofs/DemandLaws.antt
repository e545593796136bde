-- Demand 3 holds of what is left and counted if every check is passed, and so of what is accepted.
use Prim.Native.Nat.{ℕ, ◌<◌}
use native.Mathlib.Omega.{arith}
use mathlib.Core.Path.{◌≡◌, refl, sym, ap, ◌∙◌}
use mathlib.Core.Bool.{true}
use mathlib.Core.List.{List}
use lib.ListN.{length, get_or, set, length-set}
use lib.Seq.{get_or-set_same, get_or-set_other}
use borrow.Author.Tests.{leb-false}
use Rattle.std.specs.Prelude.{Ok}
use Rattle.clock_time.specs.Errors.{Passes}
use Rattle.clock_time.proofs.ErrorLaws.{accepted_passes}
use Rattle.clock_time.proofs.ExitLaws.{leaves_accepted}
use Rattle.dcf77_outcome.specs.Number.{run_number}
use Rattle.recording.specs.Outcomes.{differences}
use Rattle.recording.specs.Rule.{reached}
use Rattle.recording.specs.Recording.{rule, Recorded, recorded, correction, correction_checks, updated}
use Rattle.recording.specs.Recording.{correct_mark}
use Rattle.recording.specs.SheetNumber.{SheetNumber}
use Rattle.recording.specs.Demand.{Corrected}
use Rattle.recording.proofs.GapLaws.{after_in, after_is_first, first_is_after}
use Rattle.recording.proofs.OutcomeLaws.{among, length_mended, mended_at, mended_other}
use Rattle.recording.proofs.RuleLaws.{among_here, among_gap, among_other, reached_set, right_set}
use Rattle.recording.proofs.SheetLaws.{rule_exactly, right_exactly}
use Rattle.recording.proofs.RecordingLaws.{unfit_false}

module _ (m o : List ℕ) (p v : ℕ) where
  abbrev marked : List ℕ
  marked = set m p v

  updated_at : (i : ℕ) → i < length o → among i (reached marked p) ≡ true
      → get_or (updated marked o p) i 0 ≡ rule marked i
  updated_at i h q = mended_at (rule marked) o (reached marked p) i h ∙ rw q

  numbered : (i : ℕ) → get_or (updated marked o p) i 0 ≡ rule marked i
      → SheetNumber marked i (get_or (updated marked o p) i 0)
  numbered i e = (rule_exactly marked i _).0 (sym e)

  pub corrected : Passes (correction_checks m o p v)
      → Corrected m o p v marked (updated marked o p) (differences o (updated marked o p))
  corrected k =
      let l = (unfit_false (length m) (length o) k.0).0 in
      let h = leb-false (length m) p k.1.0 in
      record {
        marks_long = length-set m p v;
        mark_here = get_or-set_same m p v 0 h;
        mark_elsewhere = λ i n. get_or-set_other m p i v 0 n;
        outcome_here = numbered p (updated_at p (omega (arith, l, h)) (among_here marked p));
        outcome_first_gap = λ g f.
            let e = first_is_after marked p g f in
            numbered g
            (updated_at g (omega (arith, l, (after_in marked p g e).1, length-set m p v)) (among_gap marked p g e));
        outcomes_long = length_mended (rule marked) o (reached marked p);
        outcome_elsewhere = λ i n f.
            mended_other (rule marked) o (reached marked p) i
            (among_other marked p i n (λ e. f (after_is_first marked p i e)));
        right = λ R. (right_exactly marked (updated marked o p)).0
            (rw (length-set, reached_set) (right_set run_number m o p v ((right_exactly m o).1 R)));
        counted = refl;
      }

  pub correct_corrected : (m' o' : List ℕ) (n : ℕ)
      → correction (Ok n) m' o' ≡ correct_mark m o p v → Corrected m o p v m' o' n
  unfolding correct_mark
  correct_corrected m' o' n h =
      let a = leaves_accepted (recorded m o) (recorded marked (updated marked o p)) (recorded m' o') n _ h in
      let k = accepted_passes (correction_checks m o p v) _ n a.0 in
      let e = ap (λ (x : Recorded). x.marks) a.1 in
      let f = ap (λ (x : Recorded). x.outcomes) a.1 in
      rw (e, f, k.1) (corrected k.0)
