-- Laws of outcomes under any rule: mended, filled, and counted.
use Prim.Native.Nat.{ℕ, zero, suc, ◌+◌, ◌<◌, ◌≤◌, zero-le}
use native.Mathlib.Decide.{ℕ_discrete}
use native.Mathlib.Nat.{not-suc-le-zero}
use native.Mathlib.Numerals.{add-one}
use native.Mathlib.Omega.{arith}
use mathlib.Core.Path.{◌≡◌, refl, sym, ◌∙◌}
use mathlib.Core.Bool.{Bool, true, false, cond, not, true≢false}
use mathlib.Core.List.{List, [], ◌∷◌, ◌++◌, append_assoc, append-nil}
use lib.Dec.{eqb}
use lib.ListN.{length, get_or, drop, set, length-set, length-append, drop_of_length-le, get_or-append}
use lib.Seq.{drop-cons, get_or-set_other, get_or-set_same, set_at, get_or_at, ext_get_or}
use mir.Val.{bool_byte}
use borrow.Author.Tests.{eq-eqb, ne_eqb}
use Rattle.recording.specs.Outcomes.{Right, numbers, mended, differ, differences}

-- ---- a place is among some
abbrev pub among : ℕ → List ℕ → Bool
among i [] = false
among i (j ∷ ps) = cond (eqb i j) true (among i ps)

pub among_miss : (i j : ℕ) (ps : List ℕ) → among i (j ∷ ps) ≡ false → (i ≡ j → ⊥) × (among i ps ≡ false)
among_miss i j ps h =
    elim (ℕ_discrete i j) [
      | yes e ↦ absurd (true≢false (simp (eq-eqb _ _ e) at h))
      | no q ↦ (q, simp (ne_eqb _ _ q) at h)
    ]

-- ---- mended outcomes
cond_same : (b : Bool) (x : ℕ) → cond b x x ≡ x
cond_same true x = refl
cond_same false x = refl

pub length_mended : (f : ℕ → ℕ) (o ps : List ℕ) → length (mended f o ps) ≡ length o
length_mended f o [] = refl
length_mended f o (i ∷ ps) = length_mended f (set o i (f i)) ps ∙ length-set o i (f i)

pub mended_at : (f : ℕ → ℕ) (o ps : List ℕ) (i : ℕ) → i < length o
    → get_or (mended f o ps) i 0 ≡ cond (among i ps) (f i) (get_or o i 0)
mended_at f o [] i h = refl
mended_at f o (j ∷ ps) i h =
    mended_at f (set o j (f j)) ps i (rw length-set h)
    ∙ elim (ℕ_discrete i j) [
      | yes e ↦ rw e (simp (eq-eqb j j refl, get_or-set_same o j (f j) 0 (rw e at h)) (cond_same (among j ps) (f j)))
      | no q ↦ simp (ne_eqb _ _ q, get_or-set_other o j i (f j) 0 q)
    ]

pub mended_other : (f : ℕ → ℕ) (o ps : List ℕ) (i : ℕ) → among i ps ≡ false → get_or (mended f o ps) i 0 ≡ get_or o i 0
mended_other f o [] i h = refl
mended_other f o (j ∷ ps) i h =
    let a = among_miss i j ps h in
    mended_other f (set o j (f j)) ps i a.1 ∙ get_or-set_other o j i (f j) 0 a.0

-- outcomes that are right for f, mended where f' differs from f, are right for f'
pub right_mended : (f f' : ℕ → ℕ) (n : ℕ) (o ps : List ℕ) → ((i : ℕ) → among i ps ≡ false → f' i ≡ f i)
    → Right f n o → Right f' n (mended f' o ps)
right_mended f f' n o ps k R =
    record {
      long = length_mended f' o ps ∙ R.long;
      each = λ i h. mended_at f' o ps i (omega (arith, R.long)) ∙ go i h (among i ps) refl;
    }
  where
    go : (i : ℕ) → i < n → (b : Bool) → among i ps ≡ b → cond b (f' i) (get_or o i 0) ≡ f' i
    go i h true e = refl
    go i h false e = R.each i h ∙ sym (k i e)

-- ---- the outcomes that are right
length_numbers : (f : ℕ → ℕ) (n : ℕ) → length (numbers f n) ≡ n
unfolding numbers
length_numbers f zero = refl
length_numbers f (suc n) = rw (length-append, length_numbers f n) (omega arith)

get_d_numbers : (f : ℕ → ℕ) (n i : ℕ) → i < n → get_or (numbers f n) i 0 ≡ f i
unfolding numbers
get_d_numbers f zero i h = absurd (not-suc-le-zero h)
get_d_numbers f (suc n) i h =
    elim (ℕ_discrete i n) [
      | yes e ↦ rw e (get_or_at (numbers f n) (f n) [] 0 n (length_numbers f n))
      | no q ↦ get_or-append (numbers f n) (f n ∷ []) 0 i (rw length_numbers (omega arith))
          ∙ get_d_numbers f n i (omega arith)
    ]

pub numbers_right : (f : ℕ → ℕ) (n : ℕ) → Right f n (numbers f n)
numbers_right f n = record { long = length_numbers f n; each = get_d_numbers f n }

pub right_numbers : (f : ℕ → ℕ) (n : ℕ) (o : List ℕ) → Right f n o → o ≡ numbers f n
right_numbers f n o R =
    ext_get_or 0 o (numbers f n) (R.long ∙ sym (length_numbers f n))
    (λ i h. R.each i (omega (arith, R.long)) ∙ sym (get_d_numbers f n i (omega (arith, R.long))))

-- ---- filling, a place at a time
pub fill_start : (f : ℕ → ℕ) (o : List ℕ) → o ≡ numbers f 0 ++ drop 0 o
unfolding numbers
fill_start f o = refl

pub fill_more : (f : ℕ → ℕ) (o o₁ : List ℕ) (n r : ℕ) → n < length o → o₁ ≡ numbers f n ++ drop n o → r ≡ f n
    → set o₁ n r ≡ numbers f (n + 1) ++ drop (n + 1) o
unfolding numbers
fill_more f o o₁ n r h e q =
    rw (
      e,
      q,
      add-one,
      drop-cons o n 0,
      set_at (numbers f n) (get_or o n 0) (drop (suc n) o) (f n) n (length_numbers f n),
      append_assoc,
    )

pub fill_end : (f : ℕ → ℕ) (o o₁ : List ℕ) (n k : ℕ) → k ≡ length o → n ≡ k → o₁ ≡ numbers f n ++ drop n o
    → o₁ ≡ numbers f k
fill_end f o o₁ n k l q e = e ∙ rw (drop_of_length-le o {i = n} (omega arith), append-nil, q)

-- ---- the count
-- whether two numbers differ, as a number
pub differ_byte : (x y z : ℕ) → y ≡ z → bool_byte (not (eqb x y)) ≡ differ x z
unfolding differ
differ_byte x y z e = rw e (go (eqb x z))
  where
    go : (t : Bool) → bool_byte (not t) ≡ cond t 0 1
    go true = refl
    go false = refl

pub differ_le : (a x y : ℕ) → a ≡ differ x y → a ≤ 1
unfolding differ
differ_le a x y e = rw e (go (eqb x y))
  where
    go : (b : Bool) → cond {A = ℕ} b 0 1 ≤ 1
    go true = zero-le
    go false = omega arith

differences_same : (o : List ℕ) → differences o o ≡ 0
unfolding differences differ
differences_same [] = refl
differences_same (x ∷ o) = simp (eq-eqb x x refl) (omega (arith, differences_same o))

differences_set : (o u : List ℕ) (i v : ℕ) → i < length o → length u ≡ length o → get_or u i 0 ≡ get_or o i 0
    → differences o (set u i v) ≡ differences o u + differ (get_or u i 0) v
unfolding differences differ
differences_set [] u i v h l e = absurd (not-suc-le-zero h)
differences_set (x ∷ o) [] i v h l e = let z : ⊥ = omega arith in absurd z
differences_set (x ∷ o) (y ∷ u) zero v h l e = rw e (simp (eq-eqb x x refl) (omega arith))
differences_set (x ∷ o) (y ∷ u) (suc i) v h l e = omega (arith, differences_set o u i v (omega arith) (omega arith) e)

-- of one place mended, and of two
pub count_one : (f : ℕ → ℕ) (o : List ℕ) (p : ℕ) → p < length o
    → differences o (mended f o (p ∷ [])) ≡ differ (get_or o p 0) (f p)
count_one f o p h = omega (arith, differences_set o o p (f p) h refl refl, differences_same o)

pub count_two : (f : ℕ → ℕ) (o : List ℕ) (p g : ℕ) → p < length o → g < length o → p < g
    → differences o (mended f o (p ∷ g ∷ [])) ≡ differ (get_or o p 0) (f p) + differ (get_or (set o p (f p)) g 0) (f g)
count_two f o p g h k l =
    let other = get_or-set_other o p g (f p) 0 (λ e. omega arith) in
    omega (
      arith,
      count_one f o p h,
      differences_set o (set o p (f p)) g (f g) k (length-set o p (f p)) other,
    )
