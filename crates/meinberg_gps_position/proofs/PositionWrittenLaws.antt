-- A position is made of the bytes of its parts, and a representable one is read as it was written.
use Prim.Native.Nat.{ℕ, ◌*◌, ◌/◌, ◌^◌, ◌≤◌, ◌<◌}
use Prim.Native.Char.{code}
use native.Mathlib.Omega.{arith}
use mathlib.Core.Path.{◌≡◌, refl}
use mathlib.Core.Bool.{true, false, ◌&&◌}
use mathlib.Core.List.{List}
use lib.Dec.{leb, eqb, lit<}
use lib.ListN.{get_or}
use lib.IntN.{ℤ, nat_abs}
use borrow.Author.Tests.{leb-true}
use Rattle.clock_time.specs.declared.Position.{Position}
use Rattle.clock_time.proofs.Tests.{both}
use Rattle.clock_time.specs.Lists.{ascii, slice}
use Rattle.decimal.specs.Decimal.{digits}
use Rattle.decimal.proofs.DecimalLaws.{value_from_append}
use Rattle.layout.specs.Layout.{number}
use Rattle.signed.specs.Signed.{sign_byte}
use Rattle.signed.proofs.SignedLaws.{sign_read, sign_written}
use Rattle.meinberg_gps_position.specs.Aligned.{padded, aligned}
use Rattle.meinberg_gps_position.specs.Position.{Angle, latitude, longitude, whole_part, decimals, hemisphere}
use Rattle.meinberg_gps_position.specs.Position.{angle_magnitude, angle_digits, position_digits, in_range}
use Rattle.meinberg_gps_position.specs.Position.{position_fault}
use Rattle.meinberg_gps_position.specs.Position.{angle_of, position_of, angle_bytes, position_text}
use Rattle.meinberg_gps_position.specs.Position.{position_representable}
use Rattle.meinberg_gps_position.proofs.AlignedWrittenLaws.{value_aligned, aligned_right, four_digits}
use Rattle.meinberg_gps_position.proofs.AlignedWrittenLaws.{value_after}

-- ---- an angle
-- the bytes of an angle at its places
record Spelled (a : Angle) (z : ℤ) (s : List ℕ) : Type 0 where
  whole : whole_part a s ≡ aligned a.whole (nat_abs z / 10000)
  after : decimals a s ≡ digits 4 (nat_abs z)
  letter : hemisphere a s ≡ sign_byte (code a.above) (code a.below) z

record Read (a : Angle) (z : ℤ) (s : List ℕ) : Type 0 where
  stand : angle_digits a s ≡ true
  range : in_range a s ≡ true
  same : angle_of a s ≡ z

-- an angle has places for its limit, and two letters
angle_read : (a : Angle) → 0 < a.whole → a.limit < 10000 * 10 ^ a.whole
    → eqb (code a.above) (code a.below) ≡ false → (z : ℤ) → nat_abs z ≤ a.limit
    → (s : List ℕ) → Spelled a z s → Read a z s
unfolding angle_digits in_range angle_of
angle_read a some room differ z small s h =
    let degrees : nat_abs z / 10000 < 10 ^ a.whole = omega arith in
    let magnitude : angle_magnitude a s ≡ nat_abs z =
    rw (h.whole, h.after, value_from_append 0, value_aligned a.whole (nat_abs z / 10000) degrees)
    (value_after 4 (nat_abs z)) in
    record {
      stand = rw (h.whole, h.after, aligned_right a.whole (nat_abs z / 10000) some degrees, four_digits (nat_abs z));
      range = rw (h.letter, magnitude) (sign_written (code a.above) (code a.below) differ a.limit z small);
      same = rw (h.letter, magnitude) (sign_read (code a.above) (code a.below) differ z);
    }

-- ---- the position
module _ (p : Position) (s : List ℕ) (e : slice 41 23 s ≡ position_text p) where
  latitude_spelled : Spelled latitude p.latitude s
  unfolding position_text angle_bytes aligned padded digits ascii
  latitude_spelled =
      record { whole = λ i. slice 0 2 (e i); after = λ i. slice 3 4 (e i); letter = λ i. get_or (e i) 7 0 }

  longitude_spelled : Spelled longitude p.longitude s
  unfolding position_text angle_bytes aligned padded digits ascii
  longitude_spelled =
      record { whole = λ i. slice 9 3 (e i); after = λ i. slice 13 4 (e i); letter = λ i. get_or (e i) 17 0 }

  height_spelled : slice 60 4 s ≡ aligned 4 p.height
  unfolding position_text angle_bytes aligned padded digits ascii
  height_spelled i = slice 19 4 (e i)

pub record PositionRead (p : Position) (s : List ℕ) : Type 0 where
  pub faultless : position_fault s ≡ false
  pub same : position_of s ≡ p

pub position_read : (p : Position) → position_representable p ≡ true → (s : List ℕ) → slice 41 23 s ≡ position_text p
    → PositionRead p s
unfolding position_representable position_fault position_digits position_of
position_read p h s e =
    let small_latitude = leb (nat_abs p.latitude) 900000 in
    let small_longitude = leb (nat_abs p.longitude) 1800000 in
    let w = both (small_latitude && small_longitude) (leb p.height 9999) h in
    let v = both small_latitude small_longitude w.0 in
    let high : p.height < 10 ^ 4 = omega (arith, leb-true p.height 9999 w.1) in
    let n =
    angle_read latitude (lit< tt) (lit< tt) refl p.latitude (leb-true _ _ v.0) s (latitude_spelled p s e) in
    let o =
    angle_read longitude (lit< tt) (lit< tt) refl p.longitude (leb-true _ _ v.1) s (longitude_spelled p s e) in
    let height : number 4 60 s ≡ p.height = rw (height_spelled p s e) (value_aligned 4 p.height high) in
    let aligned_height = rw (← (height_spelled p s e)) at (aligned_right 4 p.height (lit< tt) high) in
    record {
      faultless = rw (n.stand, o.stand, aligned_height, n.range, o.range);
      same = λ i. record { latitude = n.same i; longitude = o.same i; height = height i };
    }
