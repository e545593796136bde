-- Laws of the code's places, and of its search for a byte that offends.
use Prim.Native.Nat.{ℕ, suc}
use Prim.Native.Nat.compare
use native.Mathlib.Omega.{arith}
use mathlib.Core.Path.{◌≡◌, refl, sym, ap, ◌∙◌}
use mathlib.Core.Bool.{Bool, true, false, not, cond, ◌&&◌, ◌||◌}
use mathlib.Core.List.{List, [], ◌∷◌}
use lib.Dec.{eqb, ltb}
use lib.ListN.{length}
use borrow.Author.Tests.{eq-eqb, ne_eqb, lt-ltb}
use denote.Enum.Bare.{sameb, same_true, same_false}
use Rattle.std.specs.List.{zip, list_any}
use Rattle.clock_time.specs.Errors.{error_number}
use Rattle.clock_time.specs.declared.Error.{Error}
use Rattle.clock_time.specs.contracts.Error.{the_type}
use Rattle.clock_time.proofs.ErrorLaws.{error_of, error_of_number}
use Rattle.layout.specs.Layout.{pattern_place, patterned, allowed, error_at, offence, first, found}

-- two errors are the same exactly if their numbers are
pub same_error : (a b : Error) → sameb the_type a b ≡ eqb (error_number a) (error_number b)
same_error a b = go (sameb the_type a b) refl
  where
    go : (t : Bool) → sameb the_type a b ≡ t → t ≡ eqb (error_number a) (error_number b)
    go true h = sym (eq-eqb _ _ (ap error_number (same_true the_type tt a b h)))
    go false h =
        sym (ne_eqb _ _ (λ e. same_false the_type a b h (sym (error_of_number a) ∙ ap error_of e ∙ error_of_number b)))

-- no error's number is 0
numbered : (e : Error) → error_number e ≡ 0 → ⊥
numbered e h = omega (arith, ap error_number (sym (error_of_number e) ∙ ap error_of h))

-- a byte offends with an error
pub offence_is : (p b : ℕ) (e : Error)
    → (not (allowed p b) && eqb (error_at p) (error_number e)) ≡ eqb (offence p b) (error_number e)
unfolding offence
offence_is p b e = go (allowed p b)
  where
    go : (t : Bool) → (not t && eqb (error_at p) (error_number e)) ≡ eqb (cond t 0 (error_at p)) (error_number e)
    go true = sym (ne_eqb 0 _ (λ h. numbered e (sym h)))
    go false = refl

-- some byte offends exactly if the first that does is within the layout
pub some_found : (k : ℕ) (l s : List ℕ) → length l ≡ length s
    → list_any (λ e. eqb (offence (pattern_place e.0) e.1) k) (zip l s) ≡ found k (patterned l) s
unfolding first
some_found k [] s h = refl
some_found k (p ∷ l) [] h = absurd (omega arith)
some_found k (p ∷ l) (b ∷ s) h = go (some_found k l s (omega arith)) (eqb (offence (pattern_place p) b) k)
  where
    go : list_any (λ e. eqb (offence (pattern_place e.0) e.1) k) (zip l s) ≡ found k (patterned l) s
        → (t : Bool) → (t || list_any (λ e. eqb (offence (pattern_place e.0) e.1) k) (zip l s))
        ≡ ltb (cond t 0 (suc (first k (patterned l) s))) (suc (length (patterned l)))
    go later true = sym (lt-ltb 0 _ (omega arith))
    go later false = rw compare.suc-suc later
