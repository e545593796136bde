-- Right-aligned numbers are written as they were read, for any number of places.
use Prim.Native.Nat.{ℕ, suc, ◌+◌, ◌-◌, ◌*◌, ◌/◌, ◌%◌, ◌≤◌, ◌<◌}
use native.Mathlib.Nat.{add-zero}
use native.Mathlib.Omega.{arith}
use mathlib.Core.Path.{◌≡◌, ◌∙◌}
use mathlib.Core.Bool.{true}
use mathlib.Core.List.{List, [], ◌∷◌, ◌++◌, append_assoc}
use lib.ListN.{length}
use borrow.Author.Tests.{ne_eqb}
use Rattle.decimal.specs.Decimal.{value_from, value, digits}
use Rattle.decimal.proofs.DecimalLaws.{digit_range}
use Rattle.meinberg_gps_position.specs.Aligned.{are_digits, right_aligned, blank_or, padded, aligned}
use Rattle.meinberg_gps_position.proofs.AlignedLaws.{digits_cons, Aligned, last, blank, high, aligned_how}

-- a number and a digit after it
record Next (n b : ℕ) : Type 0 where
  before : (10 * n + (b - 48)) / 10 ≡ n
  here : 48 + (10 * n + (b - 48)) % 10 ≡ b

next : (n b : ℕ) → 48 ≤ b → b ≤ 57 → Next n b
next n b lo hi = record { before = omega arith; here = omega arith }

aligned_digit : (n b k : ℕ) → 48 ≤ b → b ≤ 57 → aligned (suc k) (10 * n + (b - 48)) ≡ padded k n ++ (b ∷ [])
unfolding aligned
aligned_digit n b k lo hi = let d = next n b lo hi in rw (d.before, d.here)

-- before the last, if the number up to it is not 0
padded_digit : (n b k : ℕ) (s : List ℕ) → 48 ≤ b → b ≤ 57 → 0 < 10 * n + (b - 48)
    → padded (suc k) (10 * n + (b - 48)) ++ s ≡ padded k n ++ (b ∷ s)
unfolding padded blank_or
padded_digit n b k s lo hi some =
    let d = next n b lo hi in
    rw (ne_eqb (10 * n + (b - 48)) 0 (λ e. omega arith), d.before, d.here, append_assoc)

aligned_value_from : (c : ℕ) (s : List ℕ) → are_digits (c ∷ s) ≡ true → (k n : ℕ) → 0 < n
    → aligned (length (c ∷ s) + k) (value_from n (c ∷ s)) ≡ padded k n ++ (c ∷ s)
unfolding value_from
aligned_value_from c [] h k n some =
    let d = digits_cons c [] h in
    let e : 1 + k ≡ suc k = omega arith in
    rw e (aligned_digit n c k d.0 d.1)
aligned_value_from c (b ∷ s) h k n some =
    let d = digits_cons c (b ∷ s) h in
    let e : suc (suc (length s)) + k ≡ suc (length s) + suc k = omega arith in
    let m : 0 < 10 * n + (c - 48) = omega arith in
    rw e
    (aligned_value_from b s d.2 (suc k) (10 * n + (c - 48)) m
    ∙ padded_digit n c k (b ∷ s) d.0 d.1 m)

from_first : {s : List ℕ} → Aligned s → (k : ℕ) → aligned (length s + k) (value s) ≡ padded k 0 ++ s
unfolding value_from padded blank_or
from_first (last {b} h) k =
    let r = digit_range b h in
    let e : 1 + k ≡ suc k = omega arith in
    rw e (aligned_digit 0 b k r.0 r.1)
from_first (blank {b} {s} h a) k =
    let e : suc (length s) + k ≡ length s + suc k = omega arith in
    rw (h, e) (from_first a (suc k) ∙ rw append_assoc)
from_first (high {b} {c} {s} lo hi d) k =
    let e : suc (suc (length s)) + k ≡ suc (length s) + suc k = omega arith in
    let m : 0 < 10 * 0 + (b - 48) = omega arith in
    let low : 48 ≤ b = omega arith in
    rw e (aligned_value_from c s d (suc k) (10 * 0 + (b - 48)) m ∙ padded_digit 0 b k (c ∷ s) low hi m)

-- a right-aligned run of bytes is what its number is written as
pub aligned_value : (s : List ℕ) → right_aligned s ≡ true → aligned (length s) (value s) ≡ s
unfolding padded
aligned_value s h = rw add-zero at (from_first (aligned_how s h) 0)

-- four digits after a number are its last four, and the number is what stands before them
pub record FourAfter (n v : ℕ) (t : List ℕ) : Type 0 where
  pub before : v / 10000 ≡ n
  pub after : digits 4 v ≡ t

pub four_after : (n a b c d : ℕ) → are_digits (a ∷ b ∷ c ∷ d ∷ []) ≡ true
    → FourAfter n (value_from n (a ∷ b ∷ c ∷ d ∷ [])) (a ∷ b ∷ c ∷ d ∷ [])
unfolding value_from digits
four_after n a b c d h =
    let w = digits_cons a (b ∷ c ∷ d ∷ []) h in
    let x = digits_cons b (c ∷ d ∷ []) w.2 in
    let y = digits_cons c (d ∷ []) x.2 in
    let z = digits_cons d [] y.2 in
    let first = next n a w.0 w.1 in
    let second = next (10 * n + (a - 48)) b x.0 x.1 in
    let third = next (10 * (10 * n + (a - 48)) + (b - 48)) c y.0 y.1 in
    let fourth = next (10 * (10 * (10 * n + (a - 48)) + (b - 48)) + (c - 48)) d z.0 z.1 in
    record {
      before = omega arith;
      after = rw (fourth.before, fourth.here, third.before, third.here, second.before, second.here, first.here);
    }
