-- A position is written as it was read.
use Prim.Native.Nat.{ℕ, suc, ◌+◌}
use Prim.Native.Char.{code}
use mathlib.Core.Path.{◌≡◌, refl}
use mathlib.Core.Bool.{true, false}
use mathlib.Core.List.{List, [], ◌∷◌, ◌++◌}
use lib.Dec.{eqb}
use lib.ListN.{length, get_or}
use Rattle.clock_time.specs.Lists.{ascii, slice}
use Rattle.decimal.specs.Decimal.{value}
use Rattle.decimal.proofs.DecimalLaws.{value_from_append}
use Rattle.signed.proofs.SignedLaws.{signed_magnitude, sign_byte_signed}
use Rattle.meinberg_gps_position.specs.Position.{Angle, latitude, longitude, whole_part, decimals, hemisphere}
use Rattle.meinberg_gps_position.specs.Position.{angle_magnitude, in_range, position_fault, angle_of, position_of}
use Rattle.meinberg_gps_position.specs.Position.{angle_bytes}
use Rattle.meinberg_gps_position.specs.Position.{angle_text, position_text}
use Rattle.meinberg_gps_position.proofs.AlignedReadLaws.{aligned_value, four_after}
use Rattle.meinberg_gps_position.proofs.PositionLaws.{DigitsOf, faultless}

abbrev angle_at : Angle → List ℕ → List ℕ
angle_at a s = whole_part a s ++ ascii "." ++ decimals a s ++ (hemisphere a s ∷ [])

text_angle : (a : Angle) (s : List ℕ) → length (whole_part a s) ≡ a.whole → DigitsOf a s → in_range a s ≡ true
    → angle_text a (angle_of a s) ≡ angle_at a s
unfolding angle_bytes angle_of in_range
text_angle a s long d r =
    let whole = value (whole_part a s) in
    let i = a.first + a.whole + 1 in
    let j = suc i in
    let k = suc j in
    let f = four_after whole (get_or s i 0) (get_or s j 0) (get_or s k 0) (get_or s (suc k) 0) d.after in
    let magnitude : angle_magnitude a s ≡ _ = value_from_append 0 (whole_part a s) (decimals a s) in
    let front = rw long at (aligned_value (whole_part a s) d.whole) in
    rw (sign_byte_signed (code a.above) (code a.below) a.limit (hemisphere a s) (angle_magnitude a s) r)
    (rw (
      signed_magnitude (eqb (hemisphere a s) (code a.below)) (angle_magnitude a s),
      magnitude,
      f.before,
      f.after,
      front,
    ))

-- the bytes of a string at the places of its position, with the layout's own between them
abbrev pub position_at : List ℕ → List ℕ
position_at s = angle_at latitude s ++ ascii " " ++ angle_at longitude s ++ ascii " " ++ slice 60 4 s

pub text_position : (s : List ℕ) → position_fault s ≡ false → position_text (position_of s) ≡ position_at s
unfolding position_text position_of
text_position s h =
    let f = faultless s h in
    rw (
      text_angle latitude s refl f.stand.latitude_digits f.latitude_range,
      text_angle longitude s refl f.stand.longitude_digits f.longitude_range,
      aligned_value (slice 60 4 s) f.stand.height_aligned,
    )
