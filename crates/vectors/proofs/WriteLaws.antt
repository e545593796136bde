-- Laws of writing digits, at once or digit by digit.
use Rattle.std.proofs.Common.{◌≡◌, ℕ, zero, suc, ◌+◌, ◌-◌, ◌/◌, ◌%◌, ◌^◌, ◌<◌, ◌≤◌, Bool, true, false, ◌&&◌, ltb, leb, List, ◌++◌, length, drop, set, refl, append_assoc, arith, length-take-le, drop_at, ltb-true, lt-ltb, le-leb, leb-true}
use mathlib.Core.Bool.{and-eq-true_iff}
use lib.Seq.{set_split}
use Rattle.clock_time.specs.Errors.{accepted, refused}
use Rattle.decimal.specs.Decimal.{digits}
use Rattle.vectors.specs.DigitRun.{write_digits}
use Rattle.decimal.proofs.DecimalLaws.{length_digits, value_digits, digits_are_digits, value_below}
use Rattle.vectors.proofs.ReadLaws.{Reads}
use Rattle.clock_time.proofs.WritingLaws.{writing_unrepresentable, writing_no_room, writing_room}
use Rattle.clock_time.proofs.WritingLaws.{writing_not_23, writing_accepted}

-- at most 19 digits, and enough of them for n
abbrev pub Writable : ℕ → ℕ → Type 0
Writable n k = (k ≤ 19) × (n < 10 ^ k)

pub reads_digits : (n k : ℕ) → Writable n k → Reads (digits k n) n
reads_digits n k w =
    record { short = rw length_digits w.0; all_digits = digits_are_digits k n; stands = value_digits k n w.1 }

pub read_writable : {s : List ℕ} {n : ℕ} → Reads s n → Writable n (length s)
read_writable {s} r = (r.short, rw r.stands at (value_below s r.all_digits))

module _ (n k : ℕ) where
  test_writable : (leb k 19 && ltb n (10 ^ k)) ≡ true → Writable n k
  test_writable e =
      let both = (and-eq-true_iff (leb k 19) (ltb n (10 ^ k))).0 e in
      (leb-true _ _ both.0, ltb-true _ _ both.1)

  writable_test : Writable n k → (leb k 19 && ltb n (10 ^ k)) ≡ true
  writable_test w = simp (le-leb _ _ w.0, lt-ltb _ _ w.1)

module _ (n k : ℕ) (d : List ℕ) where
  pub write_unwritable : (Writable n k → ⊥) → record { answer = refused 23; memory = d } ≡ write_digits n k d
  unfolding write_digits
  write_unwritable none = go (leb k 19 && ltb n (10 ^ k)) refl
    where
      go : (t : Bool) → (leb k 19 && ltb n (10 ^ k)) ≡ t
          → record { answer = refused 23; memory = d } ≡ write_digits n k d
      go true e = absurd (none (test_writable n k e))
      go false e = rw e (writing_unrepresentable (digits k n) d)

  pub written : (m : ℕ) → (write_digits n k d).answer ≡ accepted m
      → Writable n k × (m ≡ k) × ((write_digits n k d).memory ≡ digits k n ++ drop k d)
  unfolding write_digits
  written m h =
      let a = rw length_digits at (writing_accepted (digits k n) d _ m h) in
      (test_writable n k a.0, a.1, a.2)

  module _ (w : Writable n k) where
    pub write_no_room : length d < k → record { answer = refused 20; memory = d } ≡ write_digits n k d
    unfolding write_digits
    write_no_room h = rw (writable_test n k w) (writing_no_room (digits k n) d (rw length_digits h))

    pub write_room : k ≤ length d → record { answer = accepted k; memory = digits k n ++ drop k d } ≡ write_digits n k d
    unfolding write_digits
    write_room h =
        rw (writable_test n k w) (rw length_digits at (writing_room (digits k n) d (rw length_digits h)))

    pub writable_not_23 : (write_digits n k d).answer ≡ refused 23 → ⊥
    unfolding write_digits
    writable_not_23 h = writing_not_23 (digits k n) d (rw (writable_test n k w) at h)

-- the last of i digits is put in its place
pub digits_fill : (d : List ℕ) (i n : ℕ) → 0 < i → i ≤ length d →
    digits (i - 1) (n / 10) ++ drop (i - 1) (set d (i - 1) (48 + n % 10)) ≡ digits i n ++ drop i d
unfolding digits
digits_fill d zero n h l = absurd (omega arith)
digits_fill d (suc j) n h l =
    let e : suc j - 1 ≡ j = omega arith in
    rw (e, append_assoc, set_split d j (48 + n % 10) l, drop_at _ _ j (length-take-le j d (omega arith)))
