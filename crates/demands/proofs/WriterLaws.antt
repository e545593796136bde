-- What a writer leaves is settled by what is read as its value: for any format, and from the numbers that C has.
use Prim.Native.Nat.{ℕ, suc, ◌≤◌, ◌<◌}
use native.Mathlib.Decide.{dec_le}
use native.Mathlib.Nat.{lt_of_not-le}
use native.Mathlib.Omega.{arith}
use mathlib.Core.Path.{◌≡◌, refl, sym, ap, ◌∙◌}
use mathlib.Core.Logic.{◌↔◌, ◌⊎◌, inl, inr, ⊎_elim}
use mathlib.Core.Bool.{true, false, true≢false, false≢true}
use mathlib.Core.List.{List, [], ◌∷◌, ◌++◌}
use lib.ListN.{length, drop}
use lib.IntN.{ℤ}
use Rattle.clock_time.specs.Errors.{Answer, accepted, refused, given}
use Rattle.clock_time.specs.Exit.{exit}
use Rattle.clock_time.specs.Called.{called_both, leaving}
use Rattle.clock_time.specs.Faithful.{Faithful}
use Rattle.clock_time.specs.Writing.{Written}
use Rattle.clock_time.proofs.ErrorLaws.{apart}
use Rattle.demands.specs.Refusals.{RefusesAndKeeps}
use Rattle.demands.specs.Lines.{writer_lines}
use Rattle.demands.specs.Exactly.{WritesExactly, CallWritesExactly}
use Rattle.demands.proofs.OrderLaws.{Decided, keeps}

-- what is left of a buffer in each of three cases, and that there is no fourth
pub record Settled (Reads : List ℕ → Type 0) (d : List ℕ) (e : Written) : Type 0 where
  pub written : (s : List ℕ) → Reads s → length s ≤ length d
      → e ≡ exit (accepted (length s)) (s ++ drop (length s) d)
  pub no_room : (s : List ℕ) → Reads s → length d < length s → e ≡ exit (refused 20) d
  pub unread : ((s : List ℕ) → Reads s → ⊥) → e ≡ exit (refused 23) d
  pub either : ((s : List ℕ) × Reads s) ⊎ ((s : List ℕ) → Reads s → ⊥)

pub settled : {A : Type 0} {Accepts : List ℕ → A → Type 0} {read : List ℕ → Answer A} {write : A → List ℕ → Written}
    → Faithful Accepts read write → (a : A) (d : List ℕ) → Settled (λ s. Accepts s a) d (write a d)
settled f a d =
    record {
      written = λ s h room. f.write_read s a ((f.reader.accepted_exactly s a).1 h) d room;
      no_room = λ s h short. f.no_room s a ((f.reader.accepted_exactly s a).1 h) d short;
      unread = λ none. f.unread a d (λ r. none r.0 ((f.reader.accepted_exactly r.0 a).0 r.1));
      either =
          ⊎_elim (λ r. inl (r.0, (f.reader.accepted_exactly r.0 a).0 r.1))
          (λ none. inr (λ s h. none (s, (f.reader.accepted_exactly s a).1 h))) (f.read_or_unread a);
    }

-- what says the same of every string settles the same
pub settled_same : {R S : List ℕ → Type 0} {d : List ℕ} {e : Written} → ((s : List ℕ) → R s ↔ S s) → Settled R d e
    → Settled S d e
settled_same same w =
    record {
      written = λ s h. w.written s ((same s).1 h);
      no_room = λ s h. w.no_room s ((same s).1 h);
      unread = λ none. w.unread (λ s h. none s ((same s).0 h));
      either = ⊎_elim (λ r. inl (r.0, (same r.0).0 r.1)) (λ none. inr (λ s h. none s ((same s).1 h))) w.either;
    }

-- ---- the demands
module _ {Reads : List ℕ → Type 0} {d : List ℕ} {e : Written} (w : Settled Reads d e) where
  answered_by : {a : Answer ℕ} {m : List ℕ} → e ≡ exit a m → e.answer ≡ a
  answered_by h = ap (λ (o : Written). o.answer) h

  with_room : (s : List ℕ) → Reads s → length s ≤ length d → Decided (writer_lines Reads d) d e
  with_room s h room =
      record {
        checks = given 23 false ∷ given 20 false ∷ [];
        new = s ++ drop (length s) d;
        value = length s;
        agree = (
          refl,
          (λ f. absurd (false≢true f), λ none. absurd (none s h)),
          λ p. (
            refl,
            (
              λ f. absurd (false≢true f),
              λ r.
                  apart (sym (answered_by (w.written s h room)) ∙ answered_by (w.no_room r.0 r.1.0 r.1.1)),
            ),
            λ q. tt,
          ),
        );
        by = w.written s h room;
      }

  without_room : (s : List ℕ) → Reads s → length d < length s → Decided (writer_lines Reads d) d e
  without_room s h short =
      record {
        checks = given 23 false ∷ given 20 true ∷ [];
        new = d;
        value = 0;
        agree = (
          refl,
          (λ f. absurd (false≢true f), λ none. absurd (none s h)),
          λ p. (refl, (λ f. (s, (h, short)), λ r. refl), λ f. absurd (true≢false f)),
        );
        by = w.no_room s h short;
      }

  nothing_read : ((s : List ℕ) → Reads s → ⊥) → Decided (writer_lines Reads d) d e
  nothing_read none =
      record {
        checks = given 23 true ∷ given 20 false ∷ [];
        new = d;
        value = 0;
        agree = (refl, (λ f. none, λ n. refl), λ f. absurd (true≢false f));
        by = w.unread none;
      }

  pub writer_decided : Decided (writer_lines Reads d) d e
  writer_decided = ⊎_elim some nothing_read w.either
    where
      some : (s : List ℕ) × Reads s → Decided (writer_lines Reads d) d e
      some r = elim (dec_le (length r.0) (length d)) [
        | yes room ↦ with_room r.0 r.1 room
        | no short ↦ without_room r.0 r.1 (lt_of_not-le short)
      ]

  pub writer_keeps : RefusesAndKeeps (writer_lines Reads d) (23 ∷ 20 ∷ []) d e
  writer_keeps = keeps writer_decided

  pub writes_exactly : WritesExactly Reads d e
  writes_exactly =
      record {
        write_read = w.written;
        refused_exactly = λ room. (
          λ r s h. apart (sym (answered_by (w.written s h (room s h))) ∙ r.1),
          λ none. (23, answered_by (w.unread none)),
        );
      }

  pub call_writes_exactly : (old : ℕ) → CallWritesExactly Reads d (called_both old e)
  call_writes_exactly old =
      record {
        write_read = λ s h room. rw (w.written s h room);
        refused_exactly = λ room. (
          λ r s h.
              let z : ◌≡◌ {A = ℕ} 0 (suc r.0) = rw (w.written s h (room s h)) at r.1 in
              omega (arith, z),
          λ none. (22, rw (w.unread none) refl),
        );
      }

-- ---- from numbers
module _
    {A : Type 0} {Accepts : List ℕ → A → Type 0} (write : A → List ℕ → Written) (of : List ℤ → Answer A)
    (numbers : A → List ℤ)
    (each : (a : A) (d : List ℕ) → Settled (λ s. Accepts s a) d (write a d))
    (there : (z : List ℤ) (a : A) → of z ≡ accepted a → numbers a ≡ z)
    (back : (s : List ℕ) (a : A) → Accepts s a → of (numbers a) ≡ accepted a)
    (other : (z : List ℤ) (k : ℕ) → of z ≡ refused k → k ≡ 23)
  where
    pub numbers_settled : (z : List ℤ) (d : List ℕ)
        → Settled (λ s. (a : A) × (Accepts s a × (z ≡ numbers a))) d (leaving d (of z) (λ a. write a d))
    numbers_settled z d = go (of z) refl
      where
        Reads : List ℕ → Type 0
        Reads s = (a : A) × (Accepts s a × (z ≡ numbers a))

        same : (s : List ℕ) → Reads s → (a : Answer A) → of z ≡ a → (b : A) × (Accepts s b × (a ≡ accepted b))
        same s r a e = (r.0, (r.1.0, sym e ∙ rw r.1.1 (back s r.0 r.1.0)))

        go : (a : Answer A) → of z ≡ a → Settled Reads d (leaving d a (λ x. write x d))
        go (accepted a) e =
            settled_same (λ s. (
              λ h. (a, (h, sym (there z a e))),
              λ r.
                  let w = same s r (accepted a) e in
                  let q : w.0 ≡ a = cc w.1.1 in
                  rw q at w.1.0,
            )) (each a d)
        go (refused k) e =
            let none : (s : List ℕ) → Reads s → ⊥ = λ s r. apart (sym (same s r (refused k) e).1.1) in
            record {
              written = λ s h. absurd (none s h);
              no_room = λ s h. absurd (none s h);
              unread = λ n. rw (other z k e);
              either = inr none;
            }
