-- Laws of the position of a GPS string.
use Prim.Native.Nat.{ℕ, ◌≤◌, ◌<◌}
use Prim.Native.Char.{code}
use native.Mathlib.Omega.{arith}
use mathlib.Core.Path.{◌≡◌, ◌∙◌}
use mathlib.Core.Bool.{Bool, true, false, ◌&&◌, and-false}
use mathlib.Core.List.{List, ◌∷◌}
use lib.ListN.{length, get_or, get_or-eq_default}
use borrow.Author.Tests.{le-leb, not-false}
use Rattle.clock_time.specs.Errors.{Answer, refused}
use Rattle.clock_time.specs.declared.Position.{Position}
use Rattle.clock_time.proofs.Tests.{both}
use Rattle.clock_time.specs.Lists.{slice}
use Rattle.layout.specs.Layout.{number}
use Rattle.meinberg_gps_position.specs.Aligned.{are_digits, right_aligned, digits_or_blanks}
use Rattle.meinberg_gps_position.specs.Position.{Angle, latitude, longitude, whole_part, decimals, angle_digits}
use Rattle.meinberg_gps_position.specs.Position.{position_digits, hemisphere, angle_magnitude, in_range}
use Rattle.meinberg_gps_position.specs.Position.{position_fault}
use Rattle.meinberg_gps_position.specs.Position.{angle_of, position_of, read_position, position_from}
use Rattle.meinberg_gps_position.specs.Position.{position_representable}
use Rattle.signed.proofs.SignedLaws.{sign_limit, signed_magnitude}
use Rattle.meinberg_gps_position.proofs.AlignedLaws.{digits_numeric, aligned_numeric, aligned_blank, aligned_end, value_small}

-- the digits of an angle, before and after its point
pub record DigitsOf (a : Angle) (s : List ℕ) : Type 0 where
  pub whole : right_aligned (whole_part a s) ≡ true
  pub after : are_digits (decimals a s) ≡ true
  pub whole_numeric : digits_or_blanks (whole_part a s) ≡ true
  pub after_numeric : digits_or_blanks (decimals a s) ≡ true

digits_of : (a : Angle) (s : List ℕ) → angle_digits a s ≡ true → DigitsOf a s
unfolding angle_digits
digits_of a s h =
    let w = both (right_aligned (whole_part a s)) (are_digits (decimals a s)) h in
    record {
      whole = w.0;
      after = w.1;
      whole_numeric = aligned_numeric (whole_part a s) w.0;
      after_numeric = digits_numeric (decimals a s) w.1;
    }

pub record DigitsStand (s : List ℕ) : Type 0 where
  pub latitude_digits : DigitsOf latitude s
  pub longitude_digits : DigitsOf longitude s
  pub height_aligned : right_aligned (slice 60 4 s) ≡ true
  pub height_numeric : digits_or_blanks (slice 60 4 s) ≡ true

pub position_digits_lem : (s : List ℕ) → position_digits s ≡ true → DigitsStand s
unfolding position_digits
position_digits_lem s h =
    let w = both (angle_digits latitude s && angle_digits longitude s) (right_aligned (slice 60 4 s)) h in
    let v = both (angle_digits latitude s) (angle_digits longitude s) w.0 in
    record {
      latitude_digits = digits_of latitude s v.0;
      longitude_digits = digits_of longitude s v.1;
      height_aligned = w.1;
      height_numeric = aligned_numeric (slice 60 4 s) w.1;
    }

-- ---- what was read, or 9
module _ (s : List ℕ) where
  -- the code's tests of the two angles and the height, with a blank before the places of latitude
  pub digits_tested : {lat lon height : Bool}
      → lat ≡ (right_aligned (32 ∷ whole_part latitude s) && are_digits (decimals latitude s))
      → lon ≡ (right_aligned (whole_part longitude s) && are_digits (decimals longitude s))
      → height ≡ right_aligned (slice 60 4 s) → (lat && lon && height) ≡ position_digits s
  unfolding position_digits angle_digits
  digits_tested lat lon height = rw (lat, lon, height, aligned_blank)

  pub position_no_digits : position_digits s ≡ false → refused 9 ≡ read_position s
  unfolding read_position position_fault
  position_no_digits h = simp h

  -- the height's last place is beyond the end
  pub position_short : length s < 64 → refused 9 ≡ read_position s
  unfolding position_digits
  position_short h =
      let out : length s ≤ 63 = omega arith in
      let end : get_or s 63 0 ≡ 0 = get_or-eq_default s 0 out in
      position_no_digits
      (rw (end, aligned_end (get_or s 60 0) (get_or s 61 0) (get_or s 62 0))
      (and-false (angle_digits latitude s && angle_digits longitude s)))

  -- what the code makes of the magnitudes and the height
  pub position_stands : position_digits s ≡ true → {lat lon height : ℕ} → lat ≡ angle_magnitude latitude s
      → lon ≡ angle_magnitude longitude s → height ≡ number 4 60 s → {r : Answer Position}
      → r ≡ position_from (hemisphere latitude s) lat (hemisphere longitude s) lon height → r ≡ read_position s
  unfolding read_position position_fault position_of angle_of in_range
  position_stands h lat lon height e = e ∙ rw (lat, lon, height) (simp h)

pub range_limit : (a : Angle) (s : List ℕ) → in_range a s ≡ true → angle_magnitude a s ≤ a.limit
unfolding in_range
range_limit a s h = sign_limit (code a.above) (code a.below) a.limit (hemisphere a s) (angle_magnitude a s) h

-- ---- what a string without fault has
pub record Faultless (s : List ℕ) : Type 0 where
  pub stand : DigitsStand s
  pub latitude_range : in_range latitude s ≡ true
  pub longitude_range : in_range longitude s ≡ true

pub faultless : (s : List ℕ) → position_fault s ≡ false → Faultless s
unfolding position_fault
faultless s h =
    let w = both (position_digits s && in_range latitude s) (in_range longitude s) (not-false _ h) in
    let v = both (position_digits s) (in_range latitude s) w.0 in
    record {
      stand = position_digits_lem s v.0;
      latitude_range = v.1;
      longitude_range = w.1;
    }

-- what is read is representable
pub position_representable_lem : (s : List ℕ) → position_fault s ≡ false → position_representable (position_of s) ≡ true
unfolding position_representable position_of angle_of
position_representable_lem s h =
    let f = faultless s h in
    let high : number 4 60 s ≤ 9999 = omega (arith, value_small (slice 60 4 s) f.stand.height_numeric) in
    simp (
      signed_magnitude,
      le-leb _ _ (range_limit latitude s f.latitude_range),
      le-leb _ _ (range_limit longitude s f.longitude_range),
      le-leb _ _ high,
    )
