-- Numbers at places of a tape in words, and what a call leaves as what its definition leaves.
use Prim.Native.Nat.{ℕ, ◌<◌}
use mathlib.Core.Path.{◌≡◌, refl, sym, ap, ◌∙◌}
use mathlib.Core.List.{List, [], ◌∷◌}
use lib.Dec.{leb, ltb}
use lib.ListN.{length}
use borrow.Author.Tests.{ltb-false, leb-false, le-ltb, lt-leb}
use Rattle.clock_time.specs.Errors.{Answer, accepted, refused, given}
use Rattle.clock_time.specs.Exit.{Exit, exit}
use Rattle.clock_time.specs.Called.{Called, called, status_of, behind, called_memory, called_both}
use Rattle.clock_time.proofs.ErrorLaws.{accepted_passes}
use Rattle.recording.specs.Recording.{rule, outcome_at, fill_outcomes, correct_mark}
use Rattle.recording.proofs.Theorems.{rule_in_words}
use Rattle.demands.specs.OutcomeAt.{OutcomeAt}
use Rattle.demands.specs.Exactly.{ReadsExactly}
use Rattle.demands.proofs.OrderLaws.{never_0}
use Rattle.demands.proofs.Demand1 as demand-1

-- ---- the number at a place
pub outcome_exactly : (marks : List ℕ) (place : ℕ) → ReadsExactly (OutcomeAt marks place) (outcome_at marks place)
unfolding outcome_at
outcome_exactly marks place n = (
  λ h.
      let w = accepted_passes
      (given 20 (ltb 100000 (length marks)) ∷ given 21 (leb (length marks) place) ∷ []) (rule marks place) n h in
      let within : place < length marks = leb-false _ _ w.0.1.0 in
      record {
        not_too_long = ltb-false _ _ w.0.0;
        within = within;
        number = (rule_in_words marks place n).0 (sym w.1);
      },
  λ o. simp (le-ltb _ _ o.not_too_long, lt-leb _ _ o.within, (rule_in_words marks place n).1 o.number),
)

-- ---- what a call leaves
-- no refusal has the number 0
pub memory_exit : {A M : Type 0} (e : Exit A M) (m : M) → (e.answer ≡ refused 0 → ⊥) → called 0 m ≡ called_memory e
    → (a : A) × (exit (accepted a) m ≡ e)
memory_exit {A = A} {M = M} e m some h = go e.answer refl
  where
    go : (a : Answer A) → e.answer ≡ a → (x : A) × (exit (accepted x) m ≡ e)
    go (accepted x) q =
        (x, λ i. record { answer = sym q i; memory = ap (λ (c : Called M). c.memory) h i })
    go (refused k) q =
        absurd (some (q ∙ ap refused (sym (ap (λ (c : Called M). c.status) h ∙ ap status_of q))))

pub both_exit : {A M : Type 0} (e : Exit A M) (old : A) (m : M) (a : A) → (e.answer ≡ refused 0 → ⊥)
    → called 0 (m, a) ≡ called_both old e → exit (accepted a) m ≡ e
both_exit {A = A} {M = M} e old m a some h = go e.answer refl
  where
    go : (x : Answer A) → e.answer ≡ x → exit (accepted a) m ≡ e
    go (accepted x) q =
        let same : a ≡ x = ap (λ (c : Called (M × A)). c.memory.1) h ∙ ap (behind old) q in
        λ i. record {
          answer = (ap accepted same ∙ sym q) i;
          memory = ap (λ (c : Called (M × A)). c.memory.0) h i;
        }
    go (refused k) q =
        absurd (some (q ∙ ap refused (sym (ap (λ (c : Called (M × A)). c.status) h ∙ ap status_of q))))

pub correct_0 : (marks outcomes : List ℕ) (place mark : ℕ) → (correct_mark marks outcomes place mark).answer ≡ refused 0
    → ⊥
correct_0 marks outcomes place mark =
    never_0 _ (20 ∷ 21 ∷ 22 ∷ []) refl _ (demand-1.correct_mark_lem marks outcomes place mark).ordered

pub fill_0 : (marks outcomes : List ℕ) → (fill_outcomes marks outcomes).answer ≡ refused 0 → ⊥
fill_0 marks outcomes = never_0 _ (20 ∷ []) refl _ (demand-1.fill_outcomes_lem marks outcomes).ordered

pub outcome_0 : (marks : List ℕ) (place : ℕ) → outcome_at marks place ≡ refused 0 → ⊥
outcome_0 marks place = never_0 _ (20 ∷ 21 ∷ []) refl _ (demand-1.outcome_at_lem marks place)
