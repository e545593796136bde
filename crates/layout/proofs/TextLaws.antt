-- Laws of the rule for every time string, for any format.
use Prim.Native.Nat.{ℕ}
use mathlib.Core.Path.{◌≡◌, refl, sym, ap, ◌∙◌}
use mathlib.Core.Bool.{Bool, true, false, cond, not, ◌||◌}
use mathlib.Core.List.{List, ◌∷◌, ◌++◌}
use lib.Dec.{eqb, lit<}
use lib.ListN.{length}
use Rattle.clock_time.specs.Errors.{Answer, refused, Check, given, checked}
use Rattle.clock_time.specs.declared.ClockTime.{ClockTime}
use borrow.Author.Tests.{eq-eqb, eqb-true}
use Rattle.layout.specs.Layout.{fits_from, found, layout_error, FitsLayout}
use Rattle.layout.proofs.LayoutLaws.{fits_found, none_found, test_fits, unfit}
use Rattle.layout.specs.Text.{Format, supported_day, clock_format, clock_checks, text_checks, read_text}

-- what is left to check of a string that fits its layout
abbrev pub later_checks : {A : Type 0} → Format A → List ℕ → List Check
later_checks f s =
    given 4 (f.flag_fault s)
    ∷ (f.own s ++ (let t = f.clock (f.fields s) in clock_checks (f.supported t) t (f.mismatch s)))

-- a string that fits its layout
pub read_fitting : {A : Type 0} (f : Format A) (s : List ℕ) → FitsLayout f.layout s
    → read_text f s ≡ checked (later_checks f s) (f.fields s)
unfolding read_text text_checks
read_fitting f s h =
    simp (
      eq-eqb _ _ h.long,
      fits_found 2 (lit< tt) h,
      fits_found 3 (lit< tt) h,
      fits_found 4 (lit< tt) h,
    )

-- a string that does not fit is refused with the number of its layout
read_unfitting : {A : Type 0} (f : Format A) (s : List ℕ) {n : ℕ} → n ≡ layout_error f.layout s
    → (FitsLayout f.layout s → ⊥) → refused n ≡ read_text f s
unfolding read_text text_checks layout_error
read_unfitting f s e d = ap refused e ∙ go
    (eqb (length f.layout) (length s)) (found 2 f.layout s) (found 3 f.layout s) (found 4 f.layout s)
    refl refl refl refl
  where
    go : (a b c x : Bool) → eqb (length f.layout) (length s) ≡ a → found 2 f.layout s ≡ b
        → found 3 f.layout s ≡ c → found 4 f.layout s ≡ x
        → refused (cond a (cond b 2 (cond c 3 4)) 1) ≡ checked
        (given 1 (not a) ∷ given 2 b ∷ given 3 c ∷ given 4 (x || f.flag_fault s)
        ∷ (f.own s ++ (let t = f.clock (f.fields s) in clock_checks (f.supported t) t (f.mismatch s))))
        (f.fields s)
    go false b c x p q r t = refl
    go true true c x p q r t = refl
    go true false true x p q r t = refl
    go true false false true p q r t = refl
    go true false false false p q r t = absurd (d (none_found f.layout s (eqb-true _ _ p) q r t))

-- a string of another length, and one of which the test of all places is false
module _ {A : Type 0} (f : Format A) (s : List ℕ) {n : ℕ} (e : n ≡ layout_error f.layout s) where
  pub read_length : (length s ≡ length f.layout → ⊥) → refused n ≡ read_text f s
  read_length d = read_unfitting f s e (λ h. d (sym h.long))

  pub read_misfit : {t : Bool} → t ≡ fits_from true 0 f.layout s → t ≡ false → refused n ≡ read_text f s
  read_misfit test u = read_unfitting f s e (unfit (sym test ∙ u))

-- a string that fits, of a format of clock times alone whose flags are all letters
pub read_clock_lem : (l : List ℕ) (fields : List ℕ → ClockTime) (s : List ℕ) {t : ClockTime} {a : Answer ClockTime}
    → FitsLayout l s → t ≡ fields s → a ≡ checked (clock_checks (supported_day t) t false) t
    → a ≡ read_text (clock_format l (λ s. false) fields) s
read_clock_lem l fields s h e c = rw e at c ∙ sym (read_fitting (clock_format l (λ s. false) fields) s h)

-- what a reader's code finds on its way, as the answer that its format has
pub ruleset reading = (read_length, read_misfit, read_clock_lem, test_fits)
