-- Unix time: the paper's instant.
use Rattle.std.specs.Prelude.{◌+◌, ◌*◌, Bool, not, ◌&&◌, [], ◌∷◌, leb, ℤ, pos, nat_abs, ◌-ℤ◌, ◌*ℤ◌}
use Rattle.clock_time.specs.Errors.{Answer, accepted, refused, given, checked}
use Rattle.gregorian.specs.Date.{supported_date, first_year, last_year}
use Rattle.calendar.specs.Date.{days_since_epoch}
use Rattle.calendar.specs.TimeOfDay.{time_exists}
use Rattle.clock_time.specs.declared.ClockTime.{ClockTime}

-- "offset at most 840 minutes either way" (01, The reading)
unfoldable pub offset_in_range : ℤ → Bool
offset_in_range offset = leb (nat_abs offset) 840

-- "year 1970 to 2069, a date, a time of day, weekday 1..7, offset at most 840 minutes either way" (01, The reading)
unfoldable pub is_reading : ClockTime → Bool
is_reading t =
    supported_date first_year last_year t.year t.month t.day
    && time_exists t.hour t.minute t.second t.utc_offset
    && leb 1 t.weekday
    && leb t.weekday 7
    && offset_in_range t.utc_offset

-- "The instant is 86,400 × days since 1 January 1970 + 3,600 × hour + 60 × minute + second − 60 × offset. It may be
-- below zero: 1 January 1970 00:00:00 at +60 is −3,600. Second 60 has the instant of the second after it." (01, The
-- reading)
unfoldable pub instant_of : ClockTime → ℤ
instant_of t =
    pos (86400 * days_since_epoch t.year t.month t.day + (3600 * t.hour + 60 * t.minute + t.second))
    -ℤ pos 60 *ℤ t.utc_offset

-- "Refused with 23 where the fields are no valid reading" (01, The reading)
unfoldable pub unix_time : ClockTime → Answer ℤ
unix_time t = checked (given 23 (not (is_reading t)) ∷ []) (instant_of t)
