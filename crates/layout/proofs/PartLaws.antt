-- The test of all places of a layout, part by part.
use Prim.Native.Nat.{ℕ, zero, suc, ◌+◌}
use native.Mathlib.Nat.{add-zero}
use native.Mathlib.Omega.{arith}
use mathlib.Core.Path.{◌≡◌, refl, sym, ap, ◌∙◌}
use mathlib.Core.Bool.{Bool, true, false, cond, ◌&&◌, and-true, and_assoc}
use mathlib.Core.List.{List, [], ◌∷◌}
use lib.Dec.{eqb}
use lib.ListN.{get_or, take, drop}
use borrow.Author.Tests.{eqb-true}
use Rattle.layout.specs.Layout.{free, allowed, fits_from}

pub fits_and : (t : Bool) (i : ℕ) (l s : List ℕ) → fits_from t i l s ≡ (t && fits_from true i l s)
unfolding fits_from
fits_and t i [] s = sym (and-true t)
fits_and t i (p ∷ l) s =
    let a = allowed p (get_or s i 0) in
    fits_and (t && a) (suc i) l s
    ∙ and_assoc t a (fits_from true (suc i) l s)
    ∙ ap (λ (u : Bool). t && u) (sym (fits_and a (suc i) l s))

split : (n : ℕ) (t : Bool) (i : ℕ) (l s : List ℕ)
    → fits_from (fits_from t i (take n l) s) (i + n) (drop n l) s ≡ fits_from t i l s
unfolding fits_from
split zero t i l s = rw add-zero
split (suc n) t i [] s = refl
split (suc n) t i (p ∷ l) s =
    let e : i + suc n ≡ suc i + n = omega arith in
    rw e (split n (t && allowed p (get_or s i 0)) (suc i) l s)

-- parts of these lengths, each tested by itself, and then the places that are left
abbrev pub parts_fit : List ℕ → Bool → ℕ → List ℕ → List ℕ → Bool
parts_fit [] t i l s = fits_from t i l s
parts_fit (n ∷ ns) t i l s = parts_fit ns (t && fits_from true i (take n l) s) (i + n) (drop n l) s

pub parts_fit_lem : (ns : List ℕ) (t : Bool) (i : ℕ) (l s : List ℕ) → parts_fit ns t i l s ≡ fits_from t i l s
parts_fit_lem [] t i l s = refl
parts_fit_lem (n ∷ ns) t i l s =
    parts_fit_lem ns (t && fits_from true i (take n l) s) (i + n) (drop n l) s
    ∙ ap (λ (u : Bool). fits_from u (i + n) (drop n l) s) (sym (fits_and t i (take n l) s))
    ∙ split n t i l s

free_place_lem : (t : Bool) (p b : ℕ) → cond (eqb p free) t (t && allowed p b) ≡ (t && allowed p b)
unfolding allowed
free_place_lem t p b = go (eqb p free) refl
  where
    go : (f : Bool) → eqb p free ≡ f → cond f t (t && allowed p b) ≡ (t && allowed p b)
    go true e = rw (eqb-true p free e) (sym (and-true t))
    go false e = refl

-- the places but for those that any byte may stand at
abbrev pub settled_fit : Bool → ℕ → List ℕ → List ℕ → Bool
settled_fit t i [] s = t
settled_fit t i (p ∷ l) s = settled_fit (cond (eqb p free) t (t && allowed p (get_or s i 0))) (suc i) l s

pub settled_fit_lem : (t : Bool) (i : ℕ) (l s : List ℕ) → settled_fit t i l s ≡ fits_from t i l s
unfolding fits_from
settled_fit_lem t i [] s = refl
settled_fit_lem t i (p ∷ l) s =
    settled_fit_lem (cond (eqb p free) t (t && allowed p (get_or s i 0))) (suc i) l s
    ∙ ap (λ (u : Bool). fits_from u (suc i) l s) (free_place_lem t p (get_or s i 0))
