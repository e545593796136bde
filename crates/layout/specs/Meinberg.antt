-- What the Meinberg strings have in common: date, weekday, time of day and flags, each at its own place.
use Rattle.std.specs.Prelude.{ℕ, ◌+◌, Bool, List, ℤ}
use Rattle.clock_time.specs.declared.ClockTime.{ClockTime}
use Rattle.gregorian.specs.Date.{full_year, first_year}
use Rattle.layout.specs.Layout.{number, has}

-- the clock time of a string whose date starts at the place `date_at`, whose weekday stands at `weekday_at` and whose
-- time starts at `time_at`; with this offset and the six flags in the order of "unsynchronised, unverified, summer time,
-- change coming, leap second coming, alternate antenna" (01, The reading)
abbrev pub clock_at : List ℕ → ℕ → ℕ → ℕ → ℤ → Bool → Bool → Bool → Bool → Bool → Bool → ClockTime
clock_at s date_at weekday_at time_at offset unsynchronised unverified summer change leap antenna =
    record {
      year = full_year first_year (number 2 (date_at + 6) s);
      month = number 2 (date_at + 3) s;
      day = number 2 date_at s;
      weekday = number 1 weekday_at s;
      hour = number 2 time_at s;
      minute = number 2 (time_at + 3) s;
      second = number 2 (time_at + 6) s;
      utc_offset = offset;
      unsynchronised = unsynchronised;
      unverified = unverified;
      summer_time = summer;
      dst_change_announced = change;
      leap_second_announced = leap;
      alternate_antenna = antenna;
    }

-- the same with the six flags from the place `flags_at` on: "u `#`, v `*`, x `S`, y `!`, z `A`, a `R`, or blank" (01,
-- Meinberg and ELV strings)
abbrev pub clock_with_flags : List ℕ → ℕ → ℕ → ℕ → ℕ → ℤ → ClockTime
clock_with_flags s date_at weekday_at time_at flags_at offset =
    clock_at s date_at weekday_at time_at offset (has "#" flags_at s) (has "*" (flags_at + 1) s) (has "S" (flags_at + 2) s)
    (has "!" (flags_at + 3) s) (has "A" (flags_at + 4) s) (has "R" (flags_at + 5) s)
