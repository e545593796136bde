-- Laws of the UTC offset of a GPS string: it is in range, and written and read the same.
use Prim.Native.Nat.{ℕ, ◌+◌, ◌*◌, ◌/◌, ◌%◌, ◌≤◌, ◌<◌}
use native.Mathlib.Omega.{arith}
use mathlib.Core.Path.{◌≡◌, refl, ap, ◌∙◌}
use mathlib.Core.Bool.{true, false}
use mathlib.Core.List.{List, ◌∷◌, ◌++◌}
use lib.Dec.{leb}
use lib.ListN.{get_or}
use lib.IntN.{ℤ, nat_abs}
use borrow.Author.Tests.{leb-true, le-leb, not-false}
use Rattle.signed.specs.Offset.{offset_text}
use Rattle.clock_time.proofs.Tests.{both}
use Rattle.clock_time.specs.Lists.{ascii, slice}
use Rattle.calendar.specs.UnixTime.{offset_in_range}
use Rattle.decimal.specs.Decimal.{digits}
use Rattle.decimal.proofs.DecimalLaws.{value_digits}
use Rattle.layout.specs.Layout.{FitsLayout, number, has}
use Rattle.layout.proofs.LayoutLaws.{number_below}
use Rattle.layout.proofs.WriteLaws.{digits_number}
use Rattle.signed.specs.Signed.{sign_holds}
use Rattle.signed.proofs.SignedLaws.{signed_magnitude, sign_limit, sign_byte_signed, sign_read, sign_written}
use Rattle.meinberg_gps.specs.Gps.{gps_layout, offset_magnitude, offset_fault, offset_of}

pub offset_small : {s : List ℕ} → FitsLayout gps_layout s → offset_magnitude s < 6040
unfolding gps_layout ascii
offset_small h = omega (arith, number_below h 2 25 refl, number_below h 2 28 refl)

-- ---- an offset without fault
pub record Faultless (s : List ℕ) : Type 0 where
  pub minutes : number 2 28 s ≤ 59
  pub sign : sign_holds 43 45 840 (get_or s 24 0) (offset_magnitude s) ≡ true

pub faultless : (s : List ℕ) → offset_fault s ≡ false → Faultless s
unfolding offset_fault
faultless s h =
    let w = both (leb (number 2 28 s) 59) (sign_holds 43 45 840 (get_or s 24 0) (offset_magnitude s)) (not-false _ h) in
    record { minutes = leb-true (number 2 28 s) 59 w.0; sign = w.1 }

pub offset_in_range_lem : (s : List ℕ) → offset_fault s ≡ false → offset_in_range (offset_of s) ≡ true
unfolding offset_in_range offset_of
offset_in_range_lem s h =
    rw (signed_magnitude (has "-" 24 s) (offset_magnitude s))
    (le-leb (offset_magnitude s) 840 (sign_limit 43 45 840 (get_or s 24 0) (offset_magnitude s) (faultless s h).sign))

-- the bytes of an offset at its places
abbrev pub offset_at : List ℕ → List ℕ
offset_at s = get_or s 24 0 ∷ slice 25 2 s ++ ascii ":" ++ slice 28 2 s

-- it is written as it was read
pub text_offset : {s : List ℕ} → FitsLayout gps_layout s → offset_fault s ≡ false → offset_text (offset_of s) ≡ offset_at s
unfolding offset_of offset_text gps_layout ascii
text_offset {s} fit h =
    let f = faultless s h in
    let hours : (60 * number 2 25 s + number 2 28 s) / 60 ≡ number 2 25 s = omega (arith, f.minutes) in
    let minutes : (60 * number 2 25 s + number 2 28 s) % 60 ≡ number 2 28 s = omega (arith, f.minutes) in
    rw (
      sign_byte_signed 43 45 840 (get_or s 24 0) (offset_magnitude s) f.sign,
      signed_magnitude (has "-" 24 s) (offset_magnitude s),
      hours,
      minutes,
      digits_number fit 2 25 refl,
      digits_number fit 2 28 refl,
    )

-- ---- an offset in range is read as it was written
pub record OffsetRead (z : ℤ) (s : List ℕ) : Type 0 where
  pub faultless : offset_fault s ≡ false
  pub same : offset_of s ≡ z

pub offset_read : (z : ℤ) → offset_in_range z ≡ true → (s : List ℕ) → slice 24 6 s ≡ offset_text z → OffsetRead z s
unfolding offset_in_range offset_fault offset_of offset_text digits ascii
offset_read z h s e =
    let n = nat_abs z in
    let small = leb-true n 840 h in
    let sign = ap (λ (t : List ℕ). get_or t 0 0) e in
    let hours : number 2 25 s ≡ n / 60 =
    ap (λ (t : List ℕ). number 2 1 t) e ∙ value_digits 2 (n / 60) (omega arith) in
    let minutes : number 2 28 s ≡ n % 60 =
    ap (λ (t : List ℕ). number 2 4 t) e ∙ value_digits 2 (n % 60) (omega arith) in
    let magnitude : 60 * (n / 60) + n % 60 ≡ n = omega arith in
    let within : n % 60 ≤ 59 = omega arith in
    record {
      faultless = rw (minutes, le-leb (n % 60) 59 within, sign, hours, magnitude, sign_written 43 45 refl 840 z small);
      same = rw (sign, hours, minutes, magnitude) (sign_read 43 45 refl z);
    }
