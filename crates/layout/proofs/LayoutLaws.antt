-- Laws of layouts, for any layout: the search for a place that offends, and what a string that fits has at each place.
use Prim.Native.Nat.{ℕ, zero, suc, ◌+◌, ◌%◌, ◌^◌, ◌≤◌, ◌<◌}
use native.Mathlib.Nat.{zero-add, add-zero}
use native.Mathlib.Decide.{dec_lt}
use native.Mathlib.Omega.{arith}
use mathlib.Core.Path.{◌≡◌, refl, sym, ap, ◌∙◌}
use mathlib.Core.Bool.{Bool, true, false, cond, ◌&&◌, ◌||◌, true≢false}
use mathlib.Core.List.{List, [], ◌∷◌}
use mathlib.Core.Logic.{◌⊎◌, inl, inr, ⊎_elim}
use lib.Dec.{eqb, ltb, lit<}
use lib.ListN.{length, get_or, get_or-eq_default}
use borrow.Author.Tests.{ne_eqb, eqb-true, eqb-false, lt-ltb, le-ltb, ltb-false}
use Rattle.clock_time.proofs.ListsLaws.{length_slice}
use Rattle.clock_time.proofs.Tests.{both}
use Rattle.clock_time.specs.Lists.{slice}
use Rattle.decimal.specs.Decimal.{is_digit, first_non_digit}
use Rattle.decimal.proofs.DecimalLaws.{value_below}
use Rattle.layout.specs.Layout.{digit, printable, flag_of, allowed, error_at, offence, fits_from, first}
use Rattle.layout.specs.Layout.{found, FitsLayout, number, patterned}

-- ---- one byte
pub fixed_test : (p b : ℕ) → p < 256 → allowed p b ≡ eqb b p
unfolding allowed
fixed_test p b h = rw (lt-ltb p 256 h)

pub flag_test : (a b : ℕ) → a < 256 → allowed (flag_of a) b ≡ (eqb b 32 || eqb b a)
unfolding allowed
flag_test a b h =
    let e : (512 + a) % 256 ≡ a = omega arith in
    rw (
      le-ltb (512 + a) 256 (omega arith),
      ne_eqb (512 + a) 256 (λ z. omega arith),
      ne_eqb (512 + a) 257 (λ z. omega arith),
      ne_eqb (512 + a) 258 (λ z. omega arith),
      lt-ltb (512 + a) 65536 (omega arith),
      e,
    )

-- ---- a picture
pub length_patterned : (l : List ℕ) → length (patterned l) ≡ length l
length_patterned [] = refl
length_patterned (p ∷ l) = ap suc (length_patterned l)

-- ---- a string that fits
error_three : (p : ℕ) → (error_at p ≡ 2) ⊎ ((error_at p ≡ 3) ⊎ (error_at p ≡ 4))
unfolding error_at
error_three p = go (ltb p 256 || eqb p printable) (eqb p digit)
  where
    go : (a b : Bool) → (cond {A = ℕ} a 2 (cond b 3 4) ≡ 2) ⊎ ((cond {A = ℕ} a 2 (cond b 3 4) ≡ 3) ⊎ (cond {A = ℕ} a 2
        (cond b 3 4) ≡ 4))
    go true b = inl refl
    go false true = inr (inl refl)
    go false false = inr (inr refl)

offence_none : (p b k : ℕ) → 0 < k → allowed p b ≡ true → eqb (offence p b) k ≡ false
unfolding offence
offence_none p b k h e = rw e (ne_eqb 0 k (λ z. omega arith))

offence_some : (p b : ℕ) → allowed p b ≡ false → offence p b ≡ error_at p
unfolding offence
offence_some p b e = rw e

fits_first : (k : ℕ) → 0 < k → (l s : List ℕ) → length l ≡ length s
    → ((i : ℕ) → i < length l → allowed (get_or l i 0) (get_or s i 0) ≡ true) → length l ≤ first k l s
unfolding first
fits_first k h [] s e f = omega arith
fits_first k h (p ∷ l) [] e f = absurd (omega arith)
fits_first k h (p ∷ l) (b ∷ s) e f =
    rw (offence_none p b k h (f 0 (omega arith)))
    (omega (arith, fits_first k h l s (omega arith) (λ i j. f (suc i) (omega arith))))

later : (t : Bool) (m n : ℕ) → suc m ≤ cond t 0 (suc n) → (t ≡ false) × (m ≤ n)
later true m n h = absurd (omega arith)
later false m n h = (refl, omega arith)

-- if no place has one of the three numbers, each has a byte that may stand there
all_allowed : (l s : List ℕ) → length l ≡ length s → length l ≤ first 2 l s → length l ≤ first 3 l s
    → length l ≤ first 4 l s
    → (i : ℕ) → i < length l → allowed (get_or l i 0) (get_or s i 0) ≡ true
unfolding first
all_allowed [] s e f g h i j = absurd (omega arith)
all_allowed (p ∷ l) [] e f g h i j = absurd (omega arith)
all_allowed (p ∷ l) (b ∷ s) e f g h zero j = go (allowed p b) refl
  where
    go : (t : Bool) → allowed p b ≡ t → t ≡ true
    go true q = refl
    go false q = ⊎_elim
        (λ z. absurd (eqb-false _ _ (later (eqb (offence p b) 2) (length l) (first 2 l s) f).0
        (offence_some p b q ∙ z)))
        (⊎_elim
        (λ z. absurd (eqb-false _ _ (later (eqb (offence p b) 3) (length l) (first 3 l s) g).0
        (offence_some p b q ∙ z)))
        (λ z. absurd (eqb-false _ _ (later (eqb (offence p b) 4) (length l) (first 4 l s) h).0
        (offence_some p b q ∙ z))))
        (error_three p)
all_allowed (p ∷ l) (b ∷ s) e f g h (suc i) j =
    all_allowed l s (omega arith)
    (later (eqb (offence p b) 2) (length l) (first 2 l s) f).1
    (later (eqb (offence p b) 3) (length l) (first 3 l s) g).1
    (later (eqb (offence p b) 4) (length l) (first 4 l s) h).1
    i (omega arith)

pub fits_found : (k : ℕ) → 0 < k → {l s : List ℕ} → FitsLayout l s → found k l s ≡ false
fits_found k h {l} {s} f = le-ltb _ _ (fits_first k h l s f.long f.at)

pub none_found : (l s : List ℕ) → length l ≡ length s → found 2 l s ≡ false → found 3 l s ≡ false
    → found 4 l s ≡ false → FitsLayout l s
none_found l s e f g h = record {
  long = e;
  at = all_allowed l s e (ltb-false _ _ f) (ltb-false _ _ g)
      (ltb-false _ _ h);
}

-- the test of all places at once
from_true : (t : Bool) (i : ℕ) (l s : List ℕ) → fits_from t i l s ≡ true
    → (t ≡ true) × ((k : ℕ) → k < length l → allowed (get_or l k 0) (get_or s (i + k) 0) ≡ true)
unfolding fits_from
from_true t i [] s h = (h, λ k j. absurd (omega arith))
from_true t i (p ∷ l) s h =
    let w = from_true (t && allowed p (get_or s i 0)) (suc i) l s h in
    let v = both t (allowed p (get_or s i 0)) w.0 in
    (v.0, at v.1 w.1)
  where
    at : allowed p (get_or s i 0) ≡ true → ((k : ℕ) → k < length l → allowed (get_or l k 0) (get_or s (suc i + k) 0) ≡ true)
        → (k : ℕ) → k < suc (length l) → allowed (get_or (p ∷ l) k 0) (get_or s (i + k) 0) ≡ true
    at a f zero j = rw add-zero a
    at a f (suc k) j = let e : i + suc k ≡ suc i + k = omega arith in rw e (f k (omega arith))

all_true : (i : ℕ) (l s : List ℕ) → ((k : ℕ) → k < length l → allowed (get_or l k 0) (get_or s (i + k) 0) ≡ true)
    → fits_from true i l s ≡ true
unfolding fits_from
all_true i [] s f = refl
all_true i (p ∷ l) s f =
    let here : allowed p (get_or s i 0) ≡ true = rw add-zero at (f 0 (omega arith)) in
    rw here (all_true (suc i) l s (λ k j. next k (f (suc k) (omega arith))))
  where
    next : (k : ℕ) → allowed (get_or l k 0) (get_or s (i + suc k) 0) ≡ true
        → allowed (get_or l k 0) (get_or s (suc i + k) 0) ≡ true
    next k a = let e : i + suc k ≡ suc i + k = omega arith in rw e at a

pub tested_fits : (l s : List ℕ) → length l ≡ length s → fits_from true 0 l s ≡ true → FitsLayout l s
tested_fits l s e h =
    record {
      long = e;
      at = λ i j. rw zero-add at ((from_true true 0 l s h).1 i j);
    }

-- the code's test
pub test_fits : {l s : List ℕ} {t : Bool} → length s ≡ length l → t ≡ fits_from true 0 l s → t ≡ true → FitsLayout l s
test_fits {l} {s} e test h = tested_fits l s (sym e) (sym test ∙ h)

-- a string of which the test is false does not fit
pub unfit : {l s : List ℕ} → fits_from true 0 l s ≡ false → FitsLayout l s → ⊥
unfit {l} {s} e h = true≢false (sym (all_true 0 l s (λ k j. rw zero-add (h.at k j))) ∙ e)

-- ---- digit places
-- each of the places is a digit's
abbrev pub all_digits : List ℕ → Bool
all_digits [] = true
all_digits (p ∷ l) = eqb p digit && all_digits l

-- a place that is not 0 is within its layout
pub place_within : (l : List ℕ) (at p : ℕ) → 0 < p → get_or l at 0 ≡ p → at < length l
place_within l at p some e =
    elim (dec_lt at (length l)) [
      | yes h ↦ h
      | no h ↦
          let outside : length l ≤ at = omega arith in
          absurd (omega (arith, get_or-eq_default l 0 outside))
    ]

module _ {l s : List ℕ} (h : FitsLayout l s) where
  pub digit_place_lem : (at : ℕ) → eqb (get_or l at 0) digit ≡ true → is_digit (get_or s at 0) ≡ true
  unfolding allowed
  digit_place_lem at d =
      let e = eqb-true (get_or l at 0) digit d in
      rw e at (h.at at (place_within l at digit (lit< tt) e))

  -- digits stand at digit places
  pub slice_digits : (n at : ℕ) → all_digits (slice at n l) ≡ true → first_non_digit (slice at n s) ≡ length (slice at n s)
  unfolding first_non_digit
  slice_digits zero at d = refl
  slice_digits (suc n) at d =
      let w = both (eqb (get_or l at 0) digit) (all_digits (slice (suc at) n l)) d in
      rw (digit_place_lem at w.0) (ap suc (slice_digits n (suc at) w.1))

  pub number_below : (n at : ℕ) → all_digits (slice at n l) ≡ true → number n at s < 10 ^ n
  number_below n at d = rw (length_slice n at s) at (value_below (slice at n s) (slice_digits n at d))
