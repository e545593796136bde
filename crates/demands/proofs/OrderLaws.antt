-- Answers in an order, for any checks that agree with lines of the table of refusals in words.
use Prim.Native.Nat.{ℕ, suc}
use native.Mathlib.Omega.{arith}
use mathlib.Core.Path.{◌≡◌, refl, sym, ap, ◌∙◌}
use mathlib.Core.Logic.{◌↔◌, inl, inr}
use mathlib.Core.Bool.{Bool, true, false, not, true≢false, false≢true}
use mathlib.Core.List.{List, [], ◌∷◌, ◌++◌}
use lib.Dec.{eqb}
use borrow.Author.Tests.{eqb-false, not-true}
use Rattle.clock_time.specs.Errors.{Answer, accepted, refused, Check, given, checked}
use Rattle.clock_time.specs.Exit.{Exit, exit, leaves}
use Rattle.clock_time.specs.Order.{Line, numbers_of, Gives, NoneHolds}
use Rattle.clock_time.specs.Called.{Called, status_of, called_answer, called_memory, called_both, and_then, leaving}
use Rattle.clock_time.proofs.ErrorLaws.{apart, accepted_passes, passes_accepted, follows}
use Rattle.clock_time.proofs.OrderLaws.{Agree, refused_exactly, passes_none, none_passes, positive}
use Rattle.clock_time.proofs.Tests.{both}
use Rattle.demands.specs.Refusals.{tests, RefusesInOrder, RefusesAndKeeps, CallRefusesAndKeeps}

-- ---- checks and lines
pub agree_tests : (ks : List Check) → Agree ks (tests ks)
agree_tests [] = tt
agree_tests (k ∷ ks) = (refl, (λ h. h, λ h. h), λ f. agree_tests ks)

-- the answer that checks give is in the order of their lines
pub ordered : {A : Type 0} (a : A) (ks : List Check) (ls : List Line) → Agree ks ls → (answer : Answer A)
    → answer ≡ checked ks a → RefusesInOrder ls (numbers_of ls) answer
ordered a ks ls agree answer e =
    record {
      numbers = refl;
      refused_exactly = λ n.
          let r = refused_exactly ks ls agree a n in (λ h. r.0 (sym e ∙ h), λ h. e ∙ r.1 h);
      accepted_exactly = (
        λ h. passes_none ks ls agree (accepted_passes ks a h.0 (sym e ∙ h.1)).0,
        λ h. (a, e ∙ passes_accepted ks a (none_passes ks ls agree h)),
      );
    }

-- the same with the checks themselves as lines
pub by_tests : {A : Type 0} (a : A) (ks : List Check) (answer : Answer A) → answer ≡ checked ks a
    → RefusesInOrder (tests ks) (numbers_of (tests ks)) answer
by_tests a ks answer e = ordered a ks (tests ks) (agree_tests ks) answer e

-- what leaves lent memory as it was if it refuses
module _ {A M : Type 0} (old new : M) where
  leaves_answer : (a : Answer A) → (leaves old new a).answer ≡ a
  leaves_answer (accepted a) = refl
  leaves_answer (refused n) = refl

  leaves_kept : (a : Answer A) (n : ℕ) → (leaves old new a).answer ≡ refused n → (leaves old new a).memory ≡ old
  leaves_kept (accepted a) n h = apart h
  leaves_kept (refused m) n h = refl

-- an answer and the memory left, decided by checks that agree with lines
pub record Decided {A M : Type 0} (lines : List Line) (old : M) (e : Exit A M) : Type 0 where
  pub checks : List Check
  pub new : M
  pub value : A
  pub agree : Agree checks lines
  pub by : e ≡ leaves old new (checked checks value)

pub decided : {A M : Type 0} (checks : List Check) (lines : List Line) (old new : M) (a : A) (e : Exit A M)
    → Agree checks lines → e ≡ leaves old new (checked checks a) → Decided lines old e
decided checks lines old new a e agree by =
    record { checks = checks; new = new; value = a; agree = agree; by = by }

pub keeps : {A M : Type 0} {lines : List Line} {old : M} {e : Exit A M} → Decided lines old e
    → RefusesAndKeeps lines (numbers_of lines) old e
keeps {lines} {old} d =
    let a = checked d.checks d.value in
    rw d.by (record {
      ordered =
          ordered d.value d.checks lines d.agree (leaves old d.new a).answer
          (leaves_answer old d.new a);
      kept = leaves_kept old d.new a;
    })

-- one more line before them
pub decided_after : {A M : Type 0} {lines : List Line} {old : M} {e : Exit A M} (first : Line) (test : Bool) (a : A)
    → ((test ≡ true) ↔ first.Holds) → (test ≡ true → e ≡ exit (refused first.number) old)
    → (test ≡ false → Decided lines old e) → Decided (first ∷ lines) old e
decided_after {lines} {old} {e} first test a holds stops goes = go test refl
  where
    go : (t : Bool) → test ≡ t → Decided (first ∷ lines) old e
    go true q =
        record {
          checks = given first.number true ∷ [];
          new = old;
          value = a;
          agree = (refl, (λ h. holds.0 q, λ h. refl), λ f. absurd (true≢false f));
          by = stops q;
        }
    go false q =
        let d = goes q in
        record {
          checks = given first.number false ∷ d.checks;
          new = d.new;
          value = d.value;
          agree = (refl, (λ f. absurd (false≢true f), λ h. absurd (false≢true (sym q ∙ holds.1 h))), λ f. d.agree);
          by = d.by;
        }

-- ---- one after another
-- what goes on with an accepted value has the checks of both
module _ {A B : Type 0} (a : A) (b : B) (ds : List Check) where
  pub then_checked : (go : A → Answer B) → go a ≡ checked ds b → (cs : List Check)
      → and_then (checked cs a) go ≡ checked (cs ++ ds) b
  then_checked go e = follows a b ds (λ x. and_then x go) (λ x. x) (λ n. refl) e

  pub then_leaves : {M : Type 0} (old new : M) (go : A → Exit B M) → go a ≡ leaves old new (checked ds b)
      → (cs : List Check) → leaving old (checked cs a) go ≡ leaves old new (checked (cs ++ ds) b)
  then_leaves old new go e = follows a b ds (λ x. leaving old x go) (leaves old new) (λ n. refl) e

-- ---- calls from C
status_number : {A : Type 0} (a : Answer A) (n : ℕ) → status_of a ≡ suc n → a ≡ refused (suc n)
status_number (accepted a) n h = absurd (omega (arith, h))
status_number (refused k) n h = ap refused h

status_refused : {A : Type 0} (a : Answer A) → (status_of a ≡ 0 → ⊥) → (n : ℕ) × (a ≡ refused n)
status_refused (accepted a) none = absurd (none refl)
status_refused (refused k) none = (k, refl)

gives_positive : (ls : List Line) (n : ℕ) → positive (numbers_of ls) ≡ true → Gives ls n → n ≡ 0 → ⊥
gives_positive [] n p h e = h
gives_positive (l ∷ ls) n p (inl h) e = eqb-false l.number 0 (not-true _ (both _ _ p).0) (h.1 ∙ e)
gives_positive (l ∷ ls) n p (inr h) e =
    gives_positive ls n (both (not (eqb l.number 0)) (positive (numbers_of ls)) p).1 h.1 e

pub never_0 : {A : Type 0} (ls : List Line) (order : List ℕ) → positive order ≡ true → (answer : Answer A)
    → RefusesInOrder ls order answer → answer ≡ refused 0 → ⊥
never_0 ls order p answer r e = gives_positive ls 0 (rw r.numbers p) ((r.refused_exactly 0).0 e) refl

-- an answer in an order whose status C gets, with memory that a refusal keeps
called_keeps : {A M : Type 0} (ls : List Line) (order : List ℕ) → positive order ≡ true → (answer : Answer A)
    → RefusesInOrder ls order answer → (old : M) (c : Called M) → c.status ≡ status_of answer
    → ((n : ℕ) → answer ≡ refused n → c.memory ≡ old) → CallRefusesAndKeeps ls order old c
called_keeps {A = A} ls order p answer r old c e kept =
    record {
      numbers = r.numbers;
      refused_exactly = λ n. (
        λ h. (r.refused_exactly (suc n)).0 (status_number answer n (sym e ∙ h)),
        λ h. e ∙ ap status_of ((r.refused_exactly (suc n)).1 h),
      );
      accepted_exactly = (
        λ h. none answer refl (sym e ∙ h),
        λ h. let a = r.accepted_exactly.1 h in e ∙ ap status_of a.1,
      );
      kept = λ some. let n = status_refused answer (λ z. some (e ∙ z)) in kept n.0 n.1;
    }
  where
    none : (x : Answer A) → answer ≡ x → status_of x ≡ 0 → NoneHolds ls
    none (accepted a) q h = r.accepted_exactly.0 (a, q)
    none (refused n) q h = absurd (gives_positive ls n (rw r.numbers p) ((r.refused_exactly n).0 q) h)

module _ {A : Type 0} (ls : List Line) (order : List ℕ) (p : positive order ≡ true) where
  -- whose answer goes behind a pointer
  pub from_answer : (old : A) (answer : Answer A) → RefusesInOrder ls order answer
      → CallRefusesAndKeeps ls order old (called_answer old answer)
  from_answer old answer r =
      called_keeps ls order p answer r old (called_answer old answer) refl (λ n e. rw e refl)

  module _ {M : Type 0} (old : M) (e : Exit A M) (r : RefusesAndKeeps ls order old e) where
    -- whose result is left in lent memory
    pub from_memory : CallRefusesAndKeeps ls order old (called_memory e)
    from_memory = called_keeps ls order p e.answer r.ordered old (called_memory e) refl r.kept

    -- and with it a number behind a pointer
    pub from_both : (n : A) → CallRefusesAndKeeps ls order (old, n) (called_both n e)
    from_both n =
        called_keeps ls order p e.answer r.ordered (old, n) (called_both n e) refl
        (λ k h. rw (r.kept k h, h) refl)
