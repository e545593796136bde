-- Laws for writing by a layout: a string that fits is its layout's fixed bytes and its own bytes at the open places,
-- and digits and letters are written as they were read.
use Prim.Native.Nat.{ℕ, suc, ◌+◌, ◌/◌, ◌%◌, ◌≤◌, ◌<◌}
use Prim.Native.Char.{Char, code}
use native.Mathlib.Nat.{zero-add, add-zero}
use native.Mathlib.Omega.{arith}
use mathlib.Core.Path.{◌≡◌, refl, sym, ap, ◌∙◌, subst}
use mathlib.Core.Bool.{Bool, true, false, cond, ◌&&◌, ◌||◌, false≢true}
use mathlib.Core.List.{List, [], ◌∷◌}
use lib.Dec.{eqb, ltb}
use lib.ListN.{length, get_or, drop, drop_of_length-le}
use lib.Seq.{drop-cons}
use borrow.Author.Tests.{eq-eqb, eqb-true, ltb-true}
use Rattle.clock_time.proofs.Tests.{both}
use Rattle.clock_time.specs.Lists.{slice}
use Rattle.clock_time.proofs.ListsLaws.{length_slice}
use Rattle.decimal.specs.Decimal.{digits}
use Rattle.decimal.proofs.DecimalLaws.{digits_value}
use Rattle.gregorian.specs.Date.{full_year, first_year}
use Rattle.gregorian.proofs.DateLaws.{year_sum}
use Rattle.layout.specs.Layout.{flag_of, allowed, FitsLayout, number}
use Rattle.layout.proofs.LayoutLaws.{flag_test}
use Rattle.layout.proofs.LayoutLaws.{all_digits, place_within, slice_digits, number_below}

-- ---- the string from its open places: the layout gives the fixed ones
abbrev pub restore : ℕ → List ℕ → List ℕ → List ℕ
restore i [] s = []
restore i (p ∷ l) s = cond (ltb p 256) p (get_or s i 0) ∷ restore (suc i) l s

fixed_byte : (p b : ℕ) → allowed p b ≡ true → cond (ltb p 256) p b ≡ b
unfolding allowed
fixed_byte p b h = go (ltb p 256) refl h
  where
    go : (t : Bool) → ltb p 256 ≡ t → allowed p b ≡ true → cond t p b ≡ b
    go true e h = sym (eqb-true b p (rw e at h))
    go false e h = refl

restored : (l s : List ℕ) (i : ℕ) → i + length l ≡ length s
    → ((k : ℕ) → k < length l → allowed (get_or l k 0) (get_or s (i + k) 0) ≡ true) → restore i l s ≡ drop i s
restored [] s i e f = let h : length s ≤ i = omega arith in sym (drop_of_length-le s h)
restored (p ∷ l) s i e f =
    let h : i < length s = omega arith in
    let here : allowed p (get_or s i 0) ≡ true = rw add-zero at (f 0 (omega arith)) in
    rw (drop-cons s i 0 h, fixed_byte p (get_or s i 0) here)
    (ap (λ (t : List ℕ). get_or s i 0 ∷ t) (restored l s (suc i) (omega arith) (λ k j. next k (f (suc k) (omega arith)))))
  where
    next : (k : ℕ) → allowed (get_or l k 0) (get_or s (i + suc k) 0) ≡ true
        → allowed (get_or l k 0) (get_or s (suc i + k) 0) ≡ true
    next k a = let e : i + suc k ≡ suc i + k = omega arith in rw e at a

pub restore_fits : {l s : List ℕ} → FitsLayout l s → restore 0 l s ≡ s
restore_fits {l} {s} h = restored l s 0 (omega (arith, h.long)) (λ k j. rw zero-add (h.at k j))

-- ---- digits
-- a year's last two digits
pub year_digits : (y : ℕ) → digits 2 y ≡ digits 2 (y % 100)
unfolding digits
year_digits y =
    let tens : y % 100 / 10 % 10 ≡ y / 10 % 10 = omega arith in
    let ones : y % 100 % 10 ≡ y % 10 = omega arith in
    rw (tens, ones)

full_year_lem : (n : ℕ) → n < 100 → full_year first_year n % 100 ≡ n
full_year_lem n h = rw (year_sum n) (omega arith)

module _ {l s : List ℕ} (h : FitsLayout l s) where
  pub digits_number : (n at : ℕ) → all_digits (slice at n l) ≡ true → digits n (number n at s) ≡ slice at n s
  digits_number n at d = rw (length_slice n at s) at (digits_value (slice at n s) (slice_digits h n at d))

  -- a year's last two digits are those that were read
  pub digits_year : (at : ℕ) → all_digits (slice at 2 l) ≡ true
      → digits 2 (full_year first_year (number 2 at s)) ≡ slice at 2 s
  digits_year at d =
      year_digits _ ∙ rw (full_year_lem (number 2 at s) (number_below h 2 at d)) (digits_number 2 at d)

-- ---- letters
module _ (P : ℕ → Type 0) (b : ℕ) where
  -- what holds of a blank and of the letters holds of a byte that a flag's place allows
  flag_all : (n : ℕ) → P 32 → P n → (eqb b 32 || eqb b n) ≡ true → P b
  flag_all n blank set h = go (eqb b 32) (eqb b n) refl refl h
    where
      go : (t u : Bool) → eqb b 32 ≡ t → eqb b n ≡ u → (t || u) ≡ true → P b
      go true u e f h = subst P (sym (eqb-true _ _ e)) blank
      go false true e f h = subst P (sym (eqb-true _ _ f)) set
      go false false e f h = absurd (false≢true h)

  pub either_all : (c d : Char) → P 32 → P (code c) → P (code d)
      → (eqb b 32 || eqb b (code c) || eqb b (code d)) ≡ true → P b
  either_all c d blank first second h = go (eqb b 32) (eqb b (code c)) (eqb b (code d)) refl refl refl h
    where
      go : (t u v : Bool) → eqb b 32 ≡ t → eqb b (code c) ≡ u → eqb b (code d) ≡ v → (t || u || v) ≡ true → P b
      go true u v e f g h = subst P (sym (eqb-true _ _ e)) blank
      go false true v e f g h = subst P (sym (eqb-true _ _ f)) first
      go false false true e f g h = subst P (sym (eqb-true _ _ g)) second
      go false false false e f g h = absurd (false≢true h)

-- a flag's letter is written as it was read
pub letter_has : {l s : List ℕ} → FitsLayout l s → (at n : ℕ) → (ltb n 256 && eqb (get_or l at 0) (flag_of n)) ≡ true
    → cond (eqb (get_or s at 0) n) n 32 ≡ get_or s at 0
letter_has {l} {s} h at n e =
    let w = both (ltb n 256) (eqb (get_or l at 0) (flag_of n)) e in
    let p = eqb-true (get_or l at 0) (flag_of n) w.1 in
    let fits = rw p at (h.at at (place_within l at (flag_of n) (omega arith) p)) in
    flag_all (λ x. cond (eqb x n) n 32 ≡ x) (get_or s at 0) n (blank (eqb 32 n) refl) (rw (eq-eqb n n refl))
    (sym (flag_test n (get_or s at 0) (ltb-true n 256 w.0)) ∙ fits)
  where
    blank : (t : Bool) → eqb 32 n ≡ t → cond t n 32 ≡ 32
    blank true q = sym (eqb-true 32 n q)
    blank false q = refl
