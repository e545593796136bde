-- A test passes exactly if something in words is so, `(b ≡ true) ↔ P`: of single tests, of tests put together, and of
-- two tests of the same words.
use Prim.Native.Nat.{ℕ, ◌≤◌, ◌<◌}
use native.Mathlib.Decide.{dec_le}
use native.Mathlib.Omega.{arith}
use mathlib.Core.Path.{◌≡◌, refl, sym}
use mathlib.Core.Logic.{◌↔◌, ◌⊎◌, inl, inr}
use mathlib.Core.Bool.{Bool, true, false, not, ◌&&◌, ◌||◌, false≢true}
use lib.Dec.{leb, ltb, eqb}
use borrow.Author.Tests.{eqb-true, eq-eqb, leb-true, le-leb, lt-leb, ltb-true, lt-ltb, not-false}

-- ---- single tests
pub eq_exactly : (m n : ℕ) → (eqb m n ≡ true) ↔ (m ≡ n)
eq_exactly m n = (eqb-true m n, eq-eqb m n)

pub le_exactly : (m n : ℕ) → (leb m n ≡ true) ↔ (m ≤ n)
le_exactly m n = (leb-true m n, le-leb m n)

pub lt_exactly : (m n : ℕ) → (ltb m n ≡ true) ↔ (m < n)
lt_exactly m n = (ltb-true m n, lt-ltb m n)

pub above_exactly : (m n : ℕ) → (not (leb m n) ≡ true) ↔ (n < m)
above_exactly m n = (go (leb m n) (le-leb m n), λ h. simp (lt-leb m n h))
  where
    go : (t : Bool) → (m ≤ n → t ≡ true) → not t ≡ true → n < m
    go true f h = absurd (false≢true h)
    go false f h = elim (dec_le m n) [
      | yes l ↦ absurd (false≢true (f l))
      | no l ↦ omega arith
    ]

-- ---- two tests of the same words
pub same_tests : (a b : Bool) {P : Type 0} → ((a ≡ true) ↔ P) → ((b ≡ true) ↔ P) → a ≡ b
same_tests true b i j = sym (j.1 (i.0 refl))
same_tests false true i j = i.1 (j.0 refl)
same_tests false false i j = refl

-- ---- tests put together
pub not_exactly : (b : Bool) {P : Type 0} → ((b ≡ true) ↔ P) → (not b ≡ true) ↔ (P → ⊥)
not_exactly true i = (λ h. absurd (false≢true h), λ d. absurd (d (i.0 refl)))
not_exactly false i = (λ h p. false≢true (i.1 p), λ d. refl)

pub passes_exactly : (b : Bool) {P : Type 0} → ((b ≡ true) ↔ P) → (not b ≡ false) ↔ P
passes_exactly b i = (λ h. i.0 (not-false b h), λ p. simp (i.1 p))

module _ (a b : Bool) {P Q : Type 0} where
  pub both_exactly : ((a ≡ true) ↔ P) → ((b ≡ true) ↔ Q) → ((a && b) ≡ true) ↔ (P × Q)
  both_exactly i j = (go a i, λ w. simp (i.1 w.0, j.1 w.1))
    where
      go : (a : Bool) → ((a ≡ true) ↔ P) → (a && b) ≡ true → P × Q
      go true i h = (i.0 refl, j.0 h)
      go false i h = absurd (false≢true h)

  pub either_exactly : ((a ≡ true) ↔ P) → ((b ≡ true) ↔ Q) → ((a || b) ≡ true) ↔ (P ⊎ Q)
  either_exactly i j = go a i
    where
      go : (a : Bool) → ((a ≡ true) ↔ P) → ((a || b) ≡ true) ↔ (P ⊎ Q)
      go true i = (λ h. inl (i.0 refl), λ w. refl)
      go false i = (
        λ h. inr (j.0 h),
        λ w. elim w [
          | inl p ↦ absurd (false≢true (i.1 p))
          | inr q ↦ j.1 q
        ],
      )

  -- one of two does not pass
  pub not_both_exactly : ((not a ≡ true) ↔ P) → ((not b ≡ true) ↔ Q) → (not (a && b) ≡ true) ↔ (P ⊎ Q)
  not_both_exactly i j = go a i
    where
      go : (a : Bool) → ((not a ≡ true) ↔ P) → (not (a && b) ≡ true) ↔ (P ⊎ Q)
      go true i = (
        λ h. inr (j.0 h),
        λ w. elim w [
          | inl p ↦ absurd (false≢true (i.1 p))
          | inr q ↦ j.1 q
        ],
      )
      go false i = (λ h. inl (i.0 refl), λ w. refl)
