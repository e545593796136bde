-- Laws of signed numbers from a sign and a magnitude, at any width.
use Prim.Native.Nat.{ℕ, zero, suc, ◌^◌, ◌≤◌, ◌<◌}
use native.Mathlib.Omega.{arith}
use mathlib.Core.Path.{◌≡◌, refl, sym}
use mathlib.Core.Logic.{◌↔◌, ◌⊎◌, inl, inr, ⊎_elim}
use mathlib.Core.Bool.{Bool, true, false, cond, not, ◌&&◌, ◌||◌, and-false, or-true, true≢false}
use lib.Dec.{leb, eqb}
use lib.IntN.{ℤ, pos, negsuc, neg_ℤ, nat_abs}
use lib.Signed.{mag, non_neg}
use mir.Syntax.{Width}
use mir.Val.{SFits, hbits}
use borrow.Author.Tests.{eqb-true, eqb-false, leb-true, not-true, eq-eqb, ne_eqb, le-leb}
use Rattle.clock_time.proofs.Tests.{both}
use Rattle.signed.specs.Signed.{signed, sign_holds, sign_byte}

negated_magnitude : (n : ℕ) → mag (neg_ℤ (pos n)) ≤ n
negated_magnitude zero = omega arith
negated_magnitude (suc n) = omega arith

pub signed_fits : (w : Width) (t : Bool) (n : ℕ) → n < 2 ^ hbits w → SFits w (signed t n)
unfolding signed
signed_fits w true n h = record { sfits = omega (arith, negated_magnitude n) }
signed_fits w false n h = record { sfits = h }

-- ---- a magnitude with its sign
-- the rules of a sign and a magnitude, one by one
pub record SignRules (above below limit byte magnitude : ℕ) : Type 0 where
  pub sign : (byte ≡ above) ⊎ (byte ≡ below)
  pub most : magnitude ≤ limit
  pub zero : magnitude ≡ 0 → byte ≡ below → ⊥

module _ (above below limit byte magnitude : ℕ) where
  one_of : (eqb byte above || eqb byte below) ≡ true → (byte ≡ above) ⊎ (byte ≡ below)
  one_of h = go (eqb byte above) refl h
    where
      go : (t : Bool) → eqb byte above ≡ t → (t || eqb byte below) ≡ true → (byte ≡ above) ⊎ (byte ≡ below)
      go true e h = inl (eqb-true byte above e)
      go false e h = inr (eqb-true byte below h)

  zero_above : SignRules above below limit byte magnitude → (eqb magnitude 0 && eqb byte below) ≡ false
  zero_above r = go (eqb magnitude 0) (eqb byte below) refl refl
    where
      go : (t u : Bool) → eqb magnitude 0 ≡ t → eqb byte below ≡ u → (t && u) ≡ false
      go true true e f = absurd (r.zero (eqb-true magnitude 0 e) (eqb-true byte below f))
      go true false e f = refl
      go false u e f = refl

  -- the test passes exactly if the rules hold
  pub sign_exactly : (sign_holds above below limit byte magnitude ≡ true) ↔ SignRules above below limit byte magnitude
  unfolding sign_holds
  sign_exactly = (
    λ h.
        let sign = eqb byte above || eqb byte below in
        let w = both (sign && leb magnitude limit) (not (eqb magnitude 0 && eqb byte below)) h in
        let v = both sign (leb magnitude limit) w.0 in
        let none = not-true (eqb magnitude 0 && eqb byte below) w.1 in
        record {
          sign = one_of v.0;
          most = leb-true magnitude limit v.1;
          zero = λ e b. true≢false (rw (eq-eqb magnitude 0 e, eq-eqb byte below b) at none);
        },
    λ r.
        let one : (eqb byte above || eqb byte below) ≡ true =
        ⊎_elim (λ e. rw (eq-eqb byte above e)) (λ e. rw (eq-eqb byte below e) (or-true (eqb byte above))) r.sign in
        simp (one, le-leb magnitude limit r.most, zero_above r),
  )

  pub sign_limit : sign_holds above below limit byte magnitude ≡ true → magnitude ≤ limit
  sign_limit h = (sign_exactly.0 h).most

signed_sign : (t : Bool) (n : ℕ) → (eqb n 0 && t) ≡ false → non_neg (signed t n) ≡ not t
unfolding signed
signed_sign true zero h = absurd (true≢false h)
signed_sign true (suc n) h = refl
signed_sign false n h = refl

pub signed_magnitude : (t : Bool) (n : ℕ) → nat_abs (signed t n) ≡ n
unfolding signed
signed_magnitude true zero = refl
signed_magnitude true (suc n) = refl
signed_magnitude false n = refl

-- ---- the sign of what was read is the sign that was read
pub sign_byte_signed : (above below limit byte magnitude : ℕ) → sign_holds above below limit byte magnitude ≡ true
    → sign_byte above below (signed (eqb byte below) magnitude) ≡ byte
sign_byte_signed above below limit byte magnitude h =
    let r = (sign_exactly above below limit byte magnitude).0 h in
    rw (signed_sign (eqb byte below) magnitude (zero_above above below limit byte magnitude r))
    (go (eqb byte below) refl r.sign)
  where
    go : (t : Bool) → eqb byte below ≡ t → (byte ≡ above) ⊎ (byte ≡ below) → cond (not t) above below ≡ byte
    go true e s = sym (eqb-true byte below e)
    go false e s = ⊎_elim (λ a. sym a) (λ b. absurd (eqb-false byte below e b)) s

-- ---- a number's own sign and magnitude are read as it
module _ (above below : ℕ) (differ : eqb above below ≡ false) where
  pub sign_read : (z : ℤ) → signed (eqb (sign_byte above below z) below) (nat_abs z) ≡ z
  unfolding signed
  sign_read (pos n) = rw differ
  sign_read (negsuc n) = rw (eq-eqb below below refl)

  pub sign_written : (limit : ℕ) (z : ℤ) → nat_abs z ≤ limit
      → sign_holds above below limit (sign_byte above below z) (nat_abs z) ≡ true
  unfolding sign_holds
  sign_written limit (pos n) h = simp (eq-eqb above above refl, differ, le-leb n limit h, and-false)
  sign_written limit (negsuc n) h =
      simp (eq-eqb below below refl, or-true, le-leb (suc n) limit h, ne_eqb (suc n) 0 (λ e. omega arith))
