-- The numbers that each place of an array may hold, and the reading that they stand for.
use Rattle.std.specs.Prelude.{ℕ, Bool, true, false, not, ◌&&◌, List, [], ◌∷◌, ◌++◌, eqb, length, get_or}
use Rattle.std.specs.Prelude.{ℤ, pos, nat_abs}
use Rattle.clock_time.specs.Errors.{Answer, given, checked}
use Rattle.clock_time.specs.FieldRanges.{Range, range, within, up_to, time_ranges, gps_ranges}
use Rattle.clock_time.specs.Same.{eq_ℤ}
use Rattle.c_fields.specs.declared.Place.{Place}
use Rattle.clock_time.specs.declared.ClockTime.{ClockTime}
use Rattle.meinberg_gps.specs.declared.GpsTime.{GpsTime}
use Rattle.dcf77.specs.declared.MinuteTime.{MinuteTime}

-- ---- ranges
-- those of a clock time, and after them those of the marks 1 to 14 as one number and of whether there were 60 marks
unfoldable pub minute_ranges : List Range
minute_ranges = time_ranges ++ (up_to 65535 ∷ up_to 1 ∷ [])

-- the range of a place, as the code has it
abbrev pub range_of : Place → Range
range_of p = range p.least p.most

-- there is a number for each range, and it is in it; numbers after those play no part
unfoldable pub fits : List Range → List ℤ → Bool
fits [] z = true
fits (r ∷ rs) [] = false
fits (r ∷ rs) (x ∷ z) = within r x && fits rs z

-- there is a number for each range and none after those
abbrev pub fits_all : List Range → List ℤ → Bool
fits_all rs z = eqb (length z) (length rs) && fits rs z

-- ---- readings
-- the number at a place
abbrev pub at : ℕ → List ℤ → ℤ
at i z = get_or z i (pos 0)

-- the flag that 1 or 0 stands for
abbrev pub is_set : ℤ → Bool
is_set z = eq_ℤ z (pos 1)

-- the clock time that the first 14 numbers stand for
unfoldable pub time_from : List ℤ → ClockTime
time_from z =
    record {
      year = nat_abs (at 0 z);
      month = nat_abs (at 1 z);
      day = nat_abs (at 2 z);
      weekday = nat_abs (at 3 z);
      hour = nat_abs (at 4 z);
      minute = nat_abs (at 5 z);
      second = nat_abs (at 6 z);
      utc_offset = at 7 z;
      unsynchronised = is_set (at 8 z);
      unverified = is_set (at 9 z);
      summer_time = is_set (at 10 z);
      dst_change_announced = is_set (at 11 z);
      leap_second_announced = is_set (at 12 z);
      alternate_antenna = is_set (at 13 z);
    }

-- the clock time and position that 17 numbers stand for
unfoldable pub gps_from : List ℤ → GpsTime
gps_from z =
    record {
      time = time_from z;
      position = record { latitude = at 14 z; longitude = at 15 z; height = nat_abs (at 16 z) };
    }

-- the minute that 16 numbers stand for
unfoldable pub minute_from : List ℤ → MinuteTime
minute_from z =
    record { time = time_from z; detail = record { first_marks = nat_abs (at 14 z); sixty = is_set (at 15 z) } }

-- 23: "reading that no accepted string or minute of this format gives" (01, Refusal numbers), here because the numbers
-- do not fit: one is outside the range of its place, or there are too few or, but for `first_time_of`, too many
unfoldable pub numbered : {A : Type 0} → Bool → A → Answer A
numbered fit a = checked (given 23 (not fit) ∷ []) a

-- what numbers stand for, if there is one for each range and it is in it, and none after those
abbrev pub numbered_in : {A : Type 0} → List Range → (List ℤ → A) → List ℤ → Answer A
numbered_in rs from z = numbered (fits_all rs z) (from z)

-- the clock time of 14 numbers
abbrev pub time_of : List ℤ → Answer ClockTime
time_of z = numbered_in time_ranges time_from z

-- the clock time of the first 14 numbers
abbrev pub first_time_of : List ℤ → Answer ClockTime
first_time_of z = numbered (fits time_ranges z) (time_from z)

-- the clock time and position of 17 numbers
abbrev pub gps_of : List ℤ → Answer GpsTime
gps_of z = numbered_in gps_ranges gps_from z

-- the minute of 16 numbers
abbrev pub minute_of : List ℤ → Answer MinuteTime
minute_of z = numbered_in minute_ranges minute_from z
