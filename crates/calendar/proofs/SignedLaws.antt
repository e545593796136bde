-- Laws of signed numbers: how large a difference and a product are, and the remainder of a
-- difference, taken above zero.
use Prim.Native.Nat.{ℕ, zero, suc, ◌+◌, ◌-◌, ◌*◌, ◌%◌, ◌≤◌, ◌<◌}
use native.Mathlib.Nat.{mul-le-mul_left}
use native.Mathlib.Omega.{arith}
use mathlib.Core.Path.{◌≡◌, refl, sym, ◌∙◌}
use mathlib.Core.Bool.{Bool, true, false, cond, ◌&&◌, and-true}
use lib.Dec.{T, leb, ltb, leb-suc-suc}
use lib.IntN.{ℤ, pos, negsuc, neg_ℤ, nat_abs, ◌-ℤ◌, ◌*ℤ◌}
use lib.Signed.{mag, le_z, non_neg}
use borrow.Author.Tests.{ltb-true, ltb-false, le-ltb}
use Rattle.calendar.specs.TimeOfDay.{modulo}
use Rattle.calendar.specs.UnixTime.{offset_in_range}

either : (t : Bool) (a b n : ℕ) → a < n → b < n → mag (cond t (negsuc a) (pos b)) < n
either true a b n h k = h
either false a b n h k = k

pub difference_magnitude : (a : ℕ) (z : ℤ) (n : ℕ) → a + suc (mag z) < n → mag (pos a -ℤ z) < n
difference_magnitude a (pos zero) n h = omega arith
difference_magnitude a (pos (suc b)) n h =
    either (ltb a (suc b)) (suc b - suc a) (a - suc b) n (omega arith) (omega arith)
difference_magnitude a (negsuc b) n h = omega arith

negated_magnitude : (n : ℕ) → mag (neg_ℤ (pos n)) ≤ n
negated_magnitude zero = omega arith
negated_magnitude (suc n) = omega arith

pub product_magnitude : (k : ℕ) (z : ℤ) → mag (pos k *ℤ z) ≤ k * suc (mag z)
product_magnitude k (pos n) = mul-le-mul_left k (omega arith)
product_magnitude k (negsuc n) = negated_magnitude (k * suc n)

-- a less z, with a multiple of 1,440 above z's magnitude added, is above zero and has the same remainder
pub record Shifted (a : ℕ) (z : ℤ) : Type 0 where
  pub above : T (non_neg (pos (a + 33120) -ℤ z))
  pub small : nat_abs (pos (a + 33120) -ℤ z) ≤ a + 66000
  pub same : nat_abs (pos (a + 33120) -ℤ z) % 1440 ≡ modulo (pos a -ℤ z) 1440

pub shifted : (a : ℕ) (z : ℤ) → mag z < 32768 → Shifted a z
unfolding modulo
shifted a (pos zero) h = record { above = tt; small = omega arith; same = omega arith }
shifted a (pos (suc b)) h =
    let e : ltb (a + 33120) (suc b) ≡ false = le-ltb (a + 33120) (suc b) (omega arith) in
    record {
      above = rw e tt;
      small = rw e (omega arith);
      same = rw e (go (ltb a (suc b)) refl);
    }
  where
    go : (t : Bool) → ltb a (suc b) ≡ t
        → (a + 33120 - suc b) % 1440 ≡ modulo (cond t (negsuc (suc b - suc a)) (pos (a - suc b))) 1440
    go true e = omega (arith, ltb-true a (suc b) e)
    go false e = omega (arith, ltb-false a (suc b) e)
shifted a (negsuc b) h = record { above = tt; small = omega arith; same = omega arith }

pub offset_range : (z : ℤ) → (le_z (negsuc 839) z && le_z z (pos 840)) ≡ offset_in_range z
unfolding offset_in_range
offset_range (pos n) = refl
offset_range (negsuc n) = and-true (leb n 839) ∙ sym (leb-suc-suc n 839)
