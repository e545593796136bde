-- The numbers of the position that is read fit their fields.
use Prim.Native.Nat.{ℕ, ◌≤◌}
use native.Mathlib.Omega.{arith}
use mathlib.Core.Path.{◌≡◌}
use mathlib.Core.Bool.{true}
use mathlib.Core.List.{List}
use lib.Dec.{lit≤}
use Rattle.clock_time.specs.Errors.{accepted}
use Rattle.clock_time.specs.FieldRanges.{i32_range, within, FitsPosition}
use Rattle.clock_time.specs.Lists.{slice}
use Rattle.clock_time.proofs.FieldRangesLaws.{magnitude_within}
use Rattle.layout.proofs.AcceptLaws.{read_passes}
use Rattle.signed.proofs.SignedLaws.{signed_magnitude}
use Rattle.meinberg_gps_position.specs.Position.{Angle, latitude, longitude, angle_magnitude, angle_of, position_of}
use Rattle.meinberg_gps_position.proofs.AlignedLaws.{value_small}
use Rattle.meinberg_gps_position.proofs.PositionLaws.{faultless, range_limit}
use Rattle.meinberg_gps.specs.Gps.{gps, gps_fields, read_gps}
use Rattle.meinberg_gps.specs.declared.GpsTime.{GpsTime}

angle_within : (a : Angle) (s : List ℕ) → a.limit ≤ 2147483647 → angle_magnitude a s ≤ a.limit
    → within i32_range (angle_of a s) ≡ true
unfolding angle_of
angle_within a s small most = magnitude_within 2147483647 (angle_of a s) (rw signed_magnitude (omega arith))

pub position_fits : (s : List ℕ) (g : GpsTime) → read_gps s ≡ accepted g → FitsPosition g.position
unfolding read_gps gps gps_fields position_of
position_fits s g h =
    let r = read_passes gps s g h in
    let f = faultless s r.0.own.1.0 in
    let small = value_small (slice 60 4 s) f.stand.height_numeric in
    rw r.1
    (record {
      latitude = angle_within latitude s (lit≤ tt) (range_limit latitude s f.latitude_range);
      longitude = angle_within longitude s (lit≤ tt) (range_limit longitude s f.longitude_range);
      height = omega arith;
    })
