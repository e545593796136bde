-- The main results: numbers and readings stand for one another, and nothing is lost on the way.
use Prim.Native.Nat.{◌≤◌}
use mathlib.Core.Path.{◌≡◌}
use mathlib.Core.List.{List}
use lib.IntN.{ℤ}
use Rattle.clock_time.specs.Errors.{accepted}
use Rattle.clock_time.specs.declared.ClockTime.{ClockTime}
use Rattle.meinberg_gps.specs.declared.GpsTime.{GpsTime}
use Rattle.dcf77.specs.declared.MinuteTime.{MinuteTime}
use Rattle.c_numbers.specs.Numbers.{time_numbers, gps_numbers, minute_numbers}
use Rattle.c_fields.specs.Ranges.{time_of, gps_of, minute_of}
use Rattle.clock_time.specs.FieldRanges.{FitsClockTime, FitsPosition}
use Rattle.c_fields.proofs.FitsLaws as fits
use Rattle.c_fields.proofs.NumbersLaws as numbers

-- the numbers of a reading are that reading again
pub time_numbers_lem : (t : ClockTime) → FitsClockTime t → time_of (time_numbers t) ≡ accepted t
time_numbers_lem = fits.time_numbers_lem

pub gps_numbers_lem : (g : GpsTime) → FitsClockTime g.time → FitsPosition g.position
    → gps_of (gps_numbers g) ≡ accepted g
gps_numbers_lem = fits.gps_numbers_lem

pub minute_numbers_lem : (a : MinuteTime) → FitsClockTime a.time → a.detail.first_marks ≤ 65535
    → minute_of (minute_numbers a) ≡ accepted a
minute_numbers_lem = fits.minute_numbers_lem

-- numbers that are taken for a reading are that reading's, and no others are
pub numbers_time : (z : List ℤ) (t : ClockTime) → time_of z ≡ accepted t → time_numbers t ≡ z
numbers_time = numbers.numbers_time

pub numbers_gps : (z : List ℤ) (g : GpsTime) → gps_of z ≡ accepted g → gps_numbers g ≡ z
numbers_gps = numbers.numbers_gps

pub numbers_minute : (z : List ℤ) (a : MinuteTime) → minute_of z ≡ accepted a → minute_numbers a ≡ z
numbers_minute = numbers.numbers_minute
