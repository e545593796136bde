-- The tests that only a GPS string has find no fault exactly if its rules in words hold.
use Prim.Native.Nat.{ℕ}
use native.Mathlib.Omega.{arith}
use mathlib.Core.Path.{◌≡◌, refl}
use mathlib.Core.Logic.{◌↔◌}
use mathlib.Core.Bool.{Bool, true, false, not, beq}
use mathlib.Core.List.{List}
use lib.Dec.{eqb}
use lib.ListN.{get_or}
use borrow.Author.Tests.{eqb-true, eqb-false, eq-eqb, le-leb}
use Rattle.layout.specs.Layout.{number}
use Rattle.layout.specs.Says.{two_digits_at}
use Rattle.layout.proofs.SaysLaws.{two_digits_lem}
use Rattle.signed.specs.Signed.{sign_holds}
use Rattle.signed.proofs.SignedLaws.{SignRules, sign_exactly}
use Rattle.meinberg_gps.specs.Gps.{offset_magnitude, offset_fault, leap_mismatch}
use Rattle.meinberg_gps.specs.Says.{offset_minutes, OffsetRules, LeapLetter}
use Rattle.meinberg_gps.proofs.OffsetLaws.{faultless}
use Rattle.meinberg_gps.proofs.FieldsLaws.{agree}

pub offset_magnitude_lem : (s : List ℕ) → offset_magnitude s ≡ offset_minutes s
offset_magnitude_lem s = omega (arith, two_digits_lem s 25, two_digits_lem s 28)

-- an offset has no fault exactly if its rules hold
pub offset_exactly : (s : List ℕ) → (offset_fault s ≡ false) ↔ OffsetRules s
unfolding offset_fault
offset_exactly s = (
  λ h.
      let f = faultless s h in
      let r = signs.0 f.sign in
      record {
        sign = r.sign;
        most = r.most;
        minutes = rw (two_digits_lem s 28) at f.minutes;
        minus_zero = λ minus none. r.zero none minus;
      },
  λ r. simp (
    le-leb (number 2 28 s) 59 (rw (two_digits_lem s 28) r.minutes),
    signs.1 (record { sign = r.sign; most = r.most; zero = λ none minus. r.minus_zero minus none }),
  ),
)
  where
    signs : (sign_holds 43 45 840 (get_or s 24 0) (offset_magnitude s) ≡ true)
        ↔ SignRules 43 45 840 (get_or s 24 0) (offset_minutes s)
    signs = rw (offset_magnitude_lem s) (sign_exactly 43 45 840 (get_or s 24 0) (offset_minutes s))

-- two tests agree exactly if what they test does
same_tests : (a b c d : ℕ) → (not (beq (eqb a b) (eqb c d)) ≡ false) ↔ ((a ≡ b) ↔ (c ≡ d))
same_tests a b c d = (
  λ h.
      let e = agree (eqb a b) (eqb c d) h in
      (λ p. eqb-true c d (rw (← e) (eq-eqb a b p)), λ q. eqb-true a b (rw e (eq-eqb c d q))),
  λ h. go h (eqb a b) (eqb c d) refl refl,
)
  where
    go : ((a ≡ b) ↔ (c ≡ d)) → (t u : Bool) → eqb a b ≡ t → eqb c d ≡ u → not (beq t u) ≡ false
    go h true true e f = refl
    go h false false e f = refl
    go h true false e f = absurd (eqb-false c d f (h.0 (eqb-true a b e)))
    go h false true e f = absurd (eqb-false a b e (h.1 (eqb-true c d f)))

-- the letter for second 60 stands where it must exactly if the test finds no fault
pub leap_exactly : (s : List ℕ) → (leap_mismatch s ≡ false) ↔ LeapLetter s
unfolding leap_mismatch
leap_exactly s = rw (two_digits_lem s 20) (same_tests (get_or s 38 0) 76 (two_digits_at s 20) 60)
