-- Laws of what the crate's functions answer and leave, one for each way they end.
use Prim.Native.Nat.{ℕ, ◌+◌, ◌<◌, ◌≤◌}
use native.Mathlib.Omega.{arith}
use mathlib.Core.Path.{◌≡◌, refl, sym, ap}
use mathlib.Core.Bool.{Bool, true, false, not, ◌||◌, true≢false}
use mathlib.Core.List.{List, [], ◌∷◌, Option-to_list}
use mathlib.Core.Option.{none, some}
use lib.Dec.{eqb, leb, ltb}
use lib.ListN.{length, get_or, set}
use borrow.Author.Tests.{lt-ltb, le-ltb, lt-leb, eq-eqb, eqb-true, ltb-false}
use Rattle.std.specs.Prelude.{Ok, Err}
use Rattle.clock_time.specs.Errors.{accepted, refused, error_number, given, checked}
use Rattle.clock_time.specs.Exit.{Exit}
use Rattle.clock_time.specs.declared.Error.{Error}
use Rattle.clock_time.proofs.ErrorLaws.{apart, accepted_passes}
use Rattle.clock_time.proofs.ExitLaws.{leaves_accepted, leaves_refused}
use Rattle.recording.specs.Gaps.{gap_after}
use Rattle.recording.specs.Outcomes.{Right, numbers, differ, differences}
use Rattle.recording.specs.Rule.{reached}
use Rattle.recording.specs.Recording.{rule, outcome_at, unfit, filling, fill_outcomes}
use Rattle.recording.specs.Recording.{Recorded, recorded, correction, correction_checks, updated, correct_mark}
use Rattle.recording.proofs.GapLaws.{after_in}
use Rattle.recording.proofs.OutcomeLaws.{numbers_right, count_one, count_two}

-- ---- marks and outcomes that fit
pub unfit_false : (a b : ℕ) → unfit a b ≡ false → (a ≡ b) × (a ≤ 100000)
unfit_false a b h = let e = go (eqb a b) (ltb 100000 a) h in (eqb-true a b e.0, ltb-false 100000 a e.1)
  where
    go : (s t : Bool) → (not s || t) ≡ false → (s ≡ true) × (t ≡ false)
    go true true h = absurd (true≢false h)
    go true false h = (refl, refl)
    go false t h = absurd (true≢false h)

fits_unfit : (a b : ℕ) → a ≡ b → a ≤ 100000 → unfit a b ≡ false
fits_unfit a b e h = simp (eq-eqb _ _ e, le-ltb _ _ h)

-- ---- a check that the code makes by itself
pub check_fails : (n k : ℕ) (b : Bool) → refused k ≡ checked {A = Unit {0}} (given n b ∷ []) tt → (b ≡ true) × (k ≡ n)
check_fails n k true e = let z : k ≡ n = cc in (refl, z)
check_fails n k false e = apart (sym e)

pub check_passes : (n : ℕ) (b : Bool) → accepted tt ≡ checked {A = Unit {0}} (given n b ∷ []) tt → b ≡ false
check_passes n true e = apart e
check_passes n false e = refl

-- ---- the number at a place
pub outcome_fits : (m : List ℕ) (i : ℕ) → length m ≤ 100000 → i < length m → outcome_at m i ≡ accepted (rule m i)
unfolding outcome_at
outcome_fits m i h l = simp (le-ltb _ _ h, lt-leb _ _ l)

-- ---- filling
module _ (m o : List ℕ) where
  pub fill_unfit : unfit (length m) (length o) ≡ true → record { answer = refused 20; memory = o } ≡ fill_outcomes m o
  unfolding fill_outcomes
  fill_unfit h = rw h

  pub fill_done : (o' : List ℕ) → unfit (length m) (length o) ≡ false → o' ≡ numbers (rule m) (length m)
      → record { answer = accepted tt; memory = o' } ≡ fill_outcomes m o
  unfolding fill_outcomes
  fill_done o' h e = rw (h, e)

  fill_passed : (o' : List ℕ) → filling (Ok tt) o' ≡ fill_outcomes m o
      → (unfit (length m) (length o) ≡ false) × (o' ≡ numbers (rule m) (length m))
  unfolding fill_outcomes
  fill_passed o' h =
      let a = leaves_accepted o (numbers (rule m) (length m)) o' tt _ h in
      ((accepted_passes (given 20 (unfit (length m) (length o)) ∷ []) tt tt a.0).0.0, a.1)

  pub fill_right : (o' : List ℕ) → filling (Ok tt) o' ≡ fill_outcomes m o → Right (rule m) (length m) o'
  fill_right o' h = rw (fill_passed o' h).1 (numbers_right (rule m) (length m))

  pub fill_fits : (o' : List ℕ) → filling (Ok tt) o' ≡ fill_outcomes m o → length m ≤ 100000
  fill_fits o' h = (unfit_false (length m) (length o) (fill_passed o' h).0).1

  pub fill_kept : (o' : List ℕ) (e : Error) → filling (Err e) o' ≡ fill_outcomes m o → o' ≡ o
  unfolding fill_outcomes
  fill_kept o' e h =
      leaves_refused o (numbers (rule m) (length m)) o' (error_number e)
      (checked (given 20 (unfit (length m) (length o)) ∷ []) tt) h

-- ---- one step of an update, and two
module _ (m o : List ℕ) (p : ℕ) (h : p < length m) (l : length m ≡ length o) where
  pub update_none : (o₁ : List ℕ) (a : ℕ) → gap_after m p ≡ none
      → o₁ ≡ set o p (rule m p) → a ≡ differ (get_or o p 0) (rule m p)
      → (o₁ ≡ updated m o p) × (a ≡ differences o (updated m o p))
  unfolding reached Option-to_list
  update_none o₁ a e e₁ ea = (rw e e₁, rw (e, ea) (sym (count_one (rule m) o p (omega arith))))

  pub update_gap : (o₁ o₂ : List ℕ) (a b g : ℕ) → gap_after m p ≡ some g
      → o₁ ≡ set o p (rule m p) → a ≡ differ (get_or o p 0) (rule m p)
      → o₂ ≡ set o₁ g (rule m g) → b ≡ differ (get_or o₁ g 0) (rule m g)
      → (o₂ ≡ updated m o p) × (a + b ≡ differences o (updated m o p))
  unfolding reached Option-to_list
  update_gap o₁ o₂ a b g e e₁ ea e₂ eb =
      let d = after_in m p g e in (
        rw e (rw (← e₁) e₂),
        rw (e, ea, eb, e₁) (sym (count_two (rule m) o p g (omega arith) (omega (arith, d.1)) d.0)),
      )

-- ---- the correction of a mark
module _ (m o : List ℕ) (p v : ℕ) where
  pub correct_unfit : unfit (length m) (length o) ≡ true
      → record { answer = refused 20; memory = recorded m o } ≡ correct_mark m o p v
  unfolding correct_mark
  correct_unfit h = rw h

  pub correct_no_place : unfit (length m) (length o) ≡ false → leb (length m) p ≡ true
      → record { answer = refused 21; memory = recorded m o } ≡ correct_mark m o p v
  unfolding correct_mark
  correct_no_place h k = simp (h, k)

  pub correct_no_mark : unfit (length m) (length o) ≡ false → leb (length m) p ≡ false → 3 < v
      → record { answer = refused 22; memory = recorded m o } ≡ correct_mark m o p v
  unfolding correct_mark
  correct_no_mark h k q = simp (h, k, lt-ltb _ _ q)

  pub correct_done : (o' : List ℕ) (n : ℕ) → unfit (length m) (length o) ≡ false → leb (length m) p ≡ false → v ≤ 3
      → o' ≡ updated (set m p v) o p → n ≡ differences o (updated (set m p v) o p)
      → record { answer = accepted n; memory = recorded (set m p v) o' } ≡ correct_mark m o p v
  unfolding correct_mark
  correct_done o' n h k q e c = rw (h, k, le-ltb _ _ q, e, c)

  pub correct_fits : length m ≡ length o → length m ≤ 100000 → p < length m → v ≤ 3
      → (n : ℕ) × ((correct_mark m o p v).answer ≡ accepted n)
  correct_fits l h k q =
      let e = correct_done _ _ (fits_unfit (length m) (length o) l h) (lt-leb _ _ k) q refl refl in
      (_, ap (λ (x : Exit ℕ Recorded). x.answer) (sym e))

  pub correct_kept : (m' o' : List ℕ) (e : Error) → correction (Err e) m' o' ≡ correct_mark m o p v
      → (m' ≡ m) × (o' ≡ o)
  unfolding correct_mark
  correct_kept m' o' e h =
      let o₁ = updated (set m p v) o p in
      let r = checked (correction_checks m o p v) (differences o o₁) in
      let a = leaves_refused (recorded m o) (recorded (set m p v) o₁) (recorded m' o') (error_number e) r h in
      (ap (λ (x : Recorded). x.marks) a, ap (λ (x : Recorded). x.outcomes) a)
