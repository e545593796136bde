-- Laws of the rule over any number of a run: what a mark v at place p changes in it.
use Prim.Native.Nat.{ℕ, suc, ◌<◌}
use native.Mathlib.Decide.{dec_lt, ℕ_discrete}
use native.Mathlib.Omega.{arith}
use mathlib.Core.Path.{◌≡◌, refl, sym, ap, ◌∙◌}
use mathlib.Core.Bool.{true, false}
use mathlib.Core.List.{List, [], ◌∷◌, Option-to_list}
use mathlib.Core.Option.{Option, none, some}
use lib.ListN.{length, get_or, take, set}
use lib.Seq.{get_or-set_other, take-set-le, take-set-lt, drop-set-lt}
use borrow.Author.Tests.{eq-eqb, ne_eqb}
use Rattle.recording.specs.Gaps.{gap_before, gap_after}
use Rattle.recording.specs.Outcomes.{Right, mended}
use Rattle.recording.specs.Rule.{gap_number, rule_by, reached}
use Rattle.recording.proofs.GapLaws.{before_set, before_later, after_in, after_first, after_set}
use Rattle.recording.proofs.OutcomeLaws.{among, among_miss, right_mended}

-- ---- the places that a mark reaches
pub among_here : (m : List ℕ) (p : ℕ) → among p (reached m p) ≡ true
unfolding reached Option-to_list
among_here m p = simp (eq-eqb p p refl)

pub among_gap : (m : List ℕ) (p g : ℕ) → gap_after m p ≡ some g → among g (reached m p) ≡ true
unfolding reached Option-to_list
among_gap m p g e = rw e (simp (ne_eqb g p (λ z. omega (arith, (after_in m p g e).0)), eq-eqb g g refl))

pub among_other : (m : List ℕ) (p i : ℕ) → (i ≡ p → ⊥) → (gap_after m p ≡ some i → ⊥) → among i (reached m p) ≡ false
unfolding reached Option-to_list
among_other m p i a b = simp (ne_eqb i p a) (go (gap_after m p) b)
  where
    go : (x : Option ℕ) → (x ≡ some i → ⊥) → among i (Option-to_list x) ≡ false
    go none k = refl
    go (some g) k = simp (ne_eqb i g (λ e. k (ap some (sym e))))

pub reached_set : (m : List ℕ) (p v : ℕ) → reached (set m p v) p ≡ reached m p
unfolding reached Option-to_list
reached_set m p v = rw (after_set m p v)

-- ---- the rule
module _ (number : List ℕ → ℕ) where
  pub rule_none : (m : List ℕ) (i : ℕ) → (get_or m i 0 ≡ 2 → ⊥) → rule_by number m i ≡ 0
  unfolding rule_by
  rule_none m i h = simp (ne_eqb _ _ h)

  pub rule_gap : (m : List ℕ) (i : ℕ) (g : Option ℕ) → get_or m i 0 ≡ 2 → gap_before m i ≡ g
      → rule_by number m i ≡ gap_number number m i g
  unfolding rule_by
  rule_gap m i g e q = simp (eq-eqb _ _ e, q)

  gap_same : (m u : List ℕ) (i : ℕ) (x : Option ℕ) → take i u ≡ take i m
      → gap_number number u i x ≡ gap_number number m i x
  gap_same m u i none e = refl
  gap_same m u i (some g) e = rw e

  rule_earlier : (m : List ℕ) (p v i : ℕ) → i < p → rule_by number (set m p v) i ≡ rule_by number m i
  unfolding rule_by
  rule_earlier m p v i h =
      let mark = get_or-set_other m p i v 0 (λ e. omega arith) in
      let run = gap_same m (set m p v) i (gap_before m i) (take-set-le i m p v (omega arith)) in
      rw (mark, before_set m p v i (omega arith), run)

  rule_later : (m : List ℕ) (p v g i : ℕ) → p < g → g < i → get_or m g 0 ≡ 2 → get_or m i 0 ≡ 2
      → rule_by number (set m p v) i ≡ rule_by number m i
  rule_later m p v g i pg gi e q =
      let r = before_later m p v g pg e i gi in
      rule_gap (set m p v) i (some r.0) (get_or-set_other m p i v 0 (λ z. omega arith) ∙ q) r.2
      ∙ rw (take-set-lt i m p v (omega arith), drop-set-lt (suc r.0) (take i m) p v (omega (arith, r.1)))
      (sym (rule_gap m i (some r.0) q r.3))

  -- a mark at p changes the rule at p and at the first gap after p alone
  pub rule_other : (m : List ℕ) (p v i : ℕ) → (i ≡ p → ⊥) → (gap_after m p ≡ some i → ⊥)
      → rule_by number (set m p v) i ≡ rule_by number m i
  rule_other m p v i a b =
      let same : get_or (set m p v) i 0 ≡ get_or m i 0 = get_or-set_other m p i v 0 a in
      elim (dec_lt i p) [
        | yes l ↦ rule_earlier m p v i l
        | no l ↦ elim (ℕ_discrete (get_or m i 0) 2) [
          | no q ↦ rule_none (set m p v) i (λ z. q (sym same ∙ z)) ∙ sym (rule_none m i q)
          | yes q ↦ let r = after_first m p i (omega arith) q in
              let d = after_in m p r.0 r.1 in
              let ne : r.0 ≡ i → ⊥ = λ z. b (r.1 ∙ ap some z) in
              rule_later m p v r.0 i d.0 (omega (arith, r.2)) d.2 q
        ]
      ]

  rule_kept : (m : List ℕ) (p v i : ℕ) → among i (reached m p) ≡ false
      → rule_by number (set m p v) i ≡ rule_by number m i
  unfolding reached Option-to_list
  rule_kept m p v i h =
      let a = among_miss i p (Option-to_list (gap_after m p)) h in
      let gap : gap_after m p ≡ some i → among i (i ∷ []) ≡ false =
      λ e. ap (λ (g : Option ℕ). among i (Option-to_list g)) (sym e) ∙ a.1 in
      rule_other m p v i a.0 (λ e. (among_miss i i [] (gap e)).0 refl)

  -- right outcomes stay right
  pub right_set : (m o : List ℕ) (p v : ℕ) → Right (rule_by number m) (length m) o
      → Right (rule_by number (set m p v)) (length m) (mended (rule_by number (set m p v)) o (reached m p))
  right_set m o p v R =
      right_mended (rule_by number m) (rule_by number (set m p v)) (length m) o (reached m p) (rule_kept m p v) R
