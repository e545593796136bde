-- The position of a GPS string: two angles and a height.
use Rattle.std.specs.Prelude.{ℕ, ◌+◌, ◌/◌, Bool, not, ◌&&◌, List, [], ◌∷◌, ◌++◌, leb, eqb, get_or, ℤ, nat_abs}
use Prim.Native.Char.{Char, code}
use Rattle.clock_time.specs.Errors.{Answer, given, checked}
use Rattle.clock_time.specs.declared.Position.{Position}
use Rattle.clock_time.specs.Lists.{ascii, slice}
use Rattle.decimal.specs.Decimal.{value, digits}
use Rattle.layout.specs.Layout.{number}
use Rattle.signed.specs.Signed.{signed, sign_holds, sign_byte}
use Rattle.meinberg_gps_position.specs.Aligned.{are_digits, right_aligned, aligned}

-- one of the two angles: its first place, how many places come before the point, its letters from zero on and below
-- zero, and the most that it may be
pub record Angle : Type 0 where
  pub first : ℕ
  pub whole : ℕ
  pub above : Char
  pub below : Char
  pub limit : ℕ

-- "latitude 41..48; blank 49; longitude 50..58"; "four digits after each point at 43 and 53; N or S at 48, E or W at
-- 58"; "at most 900,000 and 1,800,000" (01, Meinberg and ELV strings)
abbrev pub latitude : Angle
latitude = record { first = 41; whole = 2; above = "N"; below = "S"; limit = 900000 }

-- the other angle
abbrev pub longitude : Angle
longitude = record { first = 50; whole = 3; above = "E"; below = "W"; limit = 1800000 }

-- the places before the point
abbrev pub whole_part : Angle → List ℕ → List ℕ
whole_part a s = slice a.first a.whole s

-- the four places after the point
abbrev pub decimals : Angle → List ℕ → List ℕ
decimals a s = slice (a.first + a.whole + 1) 4 s

-- the letter of the hemisphere
abbrev pub hemisphere : Angle → List ℕ → ℕ
hemisphere a s = get_or s (a.first + a.whole + 5) 0

-- a blank counts as 0, since 32 - 48 is 0
abbrev pub angle_magnitude : Angle → List ℕ → ℕ
angle_magnitude a s = value (whole_part a s ++ decimals a s)

-- the digits and blanks of an angle stand where they must
unfoldable pub angle_digits : Angle → List ℕ → Bool
angle_digits a s = right_aligned (whole_part a s) && are_digits (decimals a s)

-- "whole parts, height among them, are right-aligned with blanks for leading zeros [..]; four digits after each point"
-- (01, Meinberg and ELV strings)
unfoldable pub position_digits : List ℕ → Bool
position_digits s = angle_digits latitude s && angle_digits longitude s && right_aligned (slice 60 4 s)

-- "at most 900,000 and 1,800,000; a zero with S or W is refused" (01, Meinberg and ELV strings)
unfoldable pub in_range : Angle → List ℕ → Bool
in_range a s = sign_holds (code a.above) (code a.below) a.limit (hemisphere a s) (angle_magnitude a s)

-- "All faults in 41..63 but the fixed bytes at 43, 49, 53 and 59 are 9." (01, Meinberg and ELV strings)
unfoldable pub position_fault : List ℕ → Bool
position_fault s = not (position_digits s && in_range latitude s && in_range longitude s)

-- "Kept as signed ten-thousandths of a degree, S and W below zero" (01, Meinberg and ELV strings)
unfoldable pub angle_of : Angle → List ℕ → ℤ
angle_of a s = signed (eqb (hemisphere a s) (code a.below)) (angle_magnitude a s)

-- the position that a string says; a blank of the height counts as 0, as in an angle
unfoldable pub position_of : List ℕ → Position
position_of s = record { latitude = angle_of latitude s; longitude = angle_of longitude s; height = number 4 60 s }

-- 9: "position" (01, Refusal numbers)
unfoldable pub read_position : List ℕ → Answer Position
read_position s = checked (given 9 (position_fault s) ∷ []) (position_of s)

-- a position from its two letters, the magnitudes of its angles and its height, or 9
abbrev pub position_from : ℕ → ℕ → ℕ → ℕ → ℕ → Answer Position
position_from latitude_letter lat longitude_letter lon height =
    checked
    (given 9
    (not
    (sign_holds (code latitude.above) (code latitude.below) latitude.limit latitude_letter lat
    && sign_holds (code longitude.above) (code longitude.below) longitude.limit longitude_letter lon))
    ∷ [])
    (record {
      latitude = signed (eqb latitude_letter (code latitude.below)) lat;
      longitude = signed (eqb longitude_letter (code longitude.below)) lon;
      height = height;
    })

-- the bytes of an angle with k places before its point
unfoldable pub angle_bytes : ℕ → ℕ → ℕ → ℤ → List ℕ
angle_bytes k above below z =
    aligned k (nat_abs z / 10000) ++ ascii "." ++ digits 4 (nat_abs z) ++ (sign_byte above below z ∷ [])

-- the bytes of one of the two angles
abbrev pub angle_text : Angle → ℤ → List ℕ
angle_text a z = angle_bytes a.whole (code a.above) (code a.below) z

-- the bytes of a position, from the first place of its latitude on
unfoldable pub position_text : Position → List ℕ
position_text p =
    angle_text latitude p.latitude ++ ascii " " ++ angle_text longitude p.longitude ++ ascii " "
    ++ aligned 4 p.height

-- the positions that these bytes can represent
unfoldable pub position_representable : Position → Bool
position_representable p =
    leb (nat_abs p.latitude) latitude.limit
    && leb (nat_abs p.longitude) longitude.limit
    && leb p.height 9999
