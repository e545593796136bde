-- Laws of numbers in ranges: what fits, place by place and step by step.
use Prim.Native.Nat.{ℕ, zero, suc, ◌≤◌, ◌<◌}
use native.Mathlib.Omega.{arith}
use mathlib.Core.Path.{◌≡◌, refl, sym, ap, ◌∙◌}
use mathlib.Core.Logic.{◌⊎◌, inl, inr}
use mathlib.Core.Bool.{Bool, true, false, ◌&&◌, false≢true, and_assoc, and-true, and-false}
use mathlib.Core.List.{List, [], ◌∷◌, ◌++◌, map}
use lib.Dec.{eqb}
use lib.ListN.{length, get_or, take}
use lib.Seq.{length-take-le}
use native.Mathlib.Nat.{le_refl}
use lib.IntN.{ℤ}
use Rattle.clock_time.specs.Errors.{accepted, refused}
use Rattle.clock_time.proofs.Tests.{both}
use Rattle.clock_time.specs.FieldRanges.{Range, up_to, within}
use Rattle.c_fields.specs.declared.Place.{Place}
use Rattle.c_fields.specs.Ranges.{range_of, fits, at}
use Rattle.c_fields.specs.Ranges.{fits_all, numbered}

-- ---- numbers in their ranges
pub fits_at : (rs : List Range) (z : List ℤ) → fits rs z ≡ true
    → (i : ℕ) → i < length rs → (i < length z) × (within (get_or rs i (up_to 0)) (at i z) ≡ true)
unfolding fits
fits_at [] z h i k = absurd (omega arith)
fits_at (r ∷ rs) [] h i k = absurd (false≢true h)
fits_at (r ∷ rs) (x ∷ z) h zero k = (omega arith, (both (within r x) (fits rs z) h).0)
fits_at (r ∷ rs) (x ∷ z) h (suc i) k =
    let w = fits_at rs z (both (within r x) (fits rs z) h).1 i (omega arith) in (omega (arith, w.0), w.1)

pub fits_first : (rs qs : List Range) (z : List ℤ) → fits (rs ++ qs) z ≡ true → fits rs z ≡ true
unfolding fits
fits_first [] qs z h = refl
fits_first (r ∷ rs) qs [] h = h
fits_first (r ∷ rs) qs (x ∷ z) h =
    let w = both (within r x) (fits (rs ++ qs) z) h in simp (w.0, fits_first rs qs z w.1)

-- ---- the test in steps
fits_take : (ranges : List Place) (z : List ℤ)
    → fits (map range_of ranges) (take (length ranges) z) ≡ fits (map range_of ranges) z
unfolding fits
fits_take [] z = refl
fits_take (r ∷ ranges) [] = refl
fits_take (r ∷ ranges) (x ∷ z) = ap (λ (t : Bool). within (range_of r) x && t) (fits_take ranges z)

-- as many numbers are left as ranges at least, and all fit exactly if those passed did and those left do
pub record Left (ranges : List Place) (z : List ℤ) (all : Bool) (rs : List Place) (xs : List ℤ) : Type 0 where
  pub enough : length rs ≤ length xs
  pub test : all && fits (map range_of rs) xs ≡ fits (map range_of ranges) z

module _ (ranges : List Place) (z : List ℤ) where
  pub left_first : (rs : List Place) (xs : List ℤ) → length ranges ≤ length z → rs ≡ ranges
      → xs ≡ take (length ranges) z → Left ranges z true rs xs
  left_first rs xs h e k =
      record {
        enough = rw (e, k, length-take-le (length ranges) z h) (le_refl (length ranges));
        test = rw (e, k) (fits_take ranges z);
      }

  pub left_more : (all : Bool) (rs' rs : List Place) (xs' xs : List ℤ) (r : Place) (x : ℤ)
      → Left ranges z all rs' xs' → rs' ≡ r ∷ rs → xs' ≡ x ∷ xs → Left ranges z (all && within (range_of r) x) rs xs
  unfolding fits
  left_more all rs' rs xs' xs r x h e k =
      let enough : length (r ∷ rs) ≤ length (x ∷ xs) = rw (e, k) at h.enough in
      let test = rw (e, k) at h.test in
      record { enough = omega arith; test = and_assoc all _ _ ∙ test }

  pub left_none : (all : Bool) (rs : List Place) (xs : List ℤ) → Left ranges z all rs xs → (rs ≡ []) ⊎ (xs ≡ [])
      → all ≡ fits (map range_of ranges) z
  unfolding fits
  left_none all rs xs h (inl e) = sym (and-true all) ∙ rw e at h.test
  left_none all [] xs h (inr e) = sym (and-true all) ∙ h.test
  left_none all (r ∷ rs) xs h (inr e) = let few : suc (length rs) ≤ 0 = rw e at h.enough in absurd (omega arith)

pub fits_short : (ranges : List Place) (z : List ℤ) → length z < length ranges
    → fits (map range_of ranges) z ≡ false
unfolding fits
fits_short [] z h = absurd (omega arith)
fits_short (r ∷ ranges) [] h = refl
fits_short (r ∷ ranges) (x ∷ z) h = rw (fits_short ranges z (omega arith)) (and-false (within (range_of r) x))

-- ---- the answer
pub numbered_fit : {A : Type 0} {fit : Bool} {a b : A} → fit ≡ true → b ≡ a → accepted b ≡ numbered fit a
unfolding numbered
numbered_fit h e = rw (h, e)

pub numbered_unfit : {A : Type 0} {fit : Bool} (a : A) → fit ≡ false → refused 23 ≡ numbered fit a
unfolding numbered
numbered_unfit a h = rw h

-- the same if no number stands after those
pub all_fit : (rs : List Range) (z : List ℤ) → fits_all rs z ≡ true → fits rs z ≡ true
all_fit rs z h = (both (eqb (length z) (length rs)) (fits rs z) h).1

-- the three, for the proofs of `from_numbers`
pub ruleset answers = (all_fit, numbered_fit, numbered_unfit)
