-- The days from 1 January 1970 to a date, and its weekday.
use Rattle.std.specs.Prelude.{ℕ, zero, suc, ◌+◌, ◌-◌, ◌%◌, cond, not, [], ◌∷◌, take}
use Rattle.clock_time.specs.Errors.{Answer, accepted, refused, given, checked}
use Rattle.clock_time.specs.Lists.{sum}
use Rattle.clock_time.specs.declared.ClockTime.{ClockTime}
use Rattle.gregorian.specs.Date.{is_leap_year, month_lengths, first_year, last_year, supported_date}

-- the days of `count` years from `year` on
unfoldable pub days_of_years : ℕ → ℕ → ℕ
days_of_years year zero = 0
days_of_years year (suc count) = sum (month_lengths (is_leap_year year)) + days_of_years (suc year) count

-- the days of a year's months before one of them
unfoldable pub days_before_month : ℕ → ℕ → ℕ
days_before_month year month = sum (take (month - 1) (month_lengths (is_leap_year year)))

-- "days since 1 January 1970" (01, The reading): those of the years before, of the months before in
-- its year, and of the days before in its month
unfoldable pub days_since_epoch : ℕ → ℕ → ℕ → ℕ
days_since_epoch year month day = days_of_years 1970 (year - 1970) + days_before_month year month + (day - 1)

-- 5: "no such date" (01, Refusal numbers), also outside 1970 to 2069
unfoldable pub day_number : ℕ → ℕ → ℕ → Answer ℕ
day_number year month day =
    checked (given 5 (not (supported_date first_year last_year year month day)) ∷ []) (days_since_epoch year month day)

-- "weekday (1 Monday to 7 Sunday)" (01, The reading); 1 January 1970 was a Thursday
unfoldable pub weekday_number : ℕ → ℕ → ℕ → ℕ
weekday_number year month day = 1 + (days_since_epoch year month day + 3) % 7

-- 5: "no such date" (01, Refusal numbers), also outside 1970 to 2069
unfoldable pub weekday_of : ℕ → ℕ → ℕ → Answer ℕ
weekday_of year month day =
    checked (given 5 (not (supported_date first_year last_year year month day)) ∷ []) (weekday_number year month day)

-- 0, which is no weekday, if the date is not one of 1970 to 2069
unfoldable pub weekday_or_zero : ℕ → ℕ → ℕ → ℕ
weekday_or_zero year month day = cond (supported_date first_year last_year year month day) (weekday_number year month day) 0

-- "No weekday is sent; it is worked out from the date." (01, Meinberg and ELV strings): a clock time with the weekday
-- of its date in place of its own
unfoldable pub with_weekday : ClockTime → ClockTime
with_weekday t =
    record {
      year = t.year;
      month = t.month;
      day = t.day;
      weekday = weekday_or_zero t.year t.month t.day;
      hour = t.hour;
      minute = t.minute;
      second = t.second;
      utc_offset = t.utc_offset;
      unsynchronised = t.unsynchronised;
      unverified = t.unverified;
      summer_time = t.summer_time;
      dst_change_announced = t.dst_change_announced;
      leap_second_announced = t.leap_second_announced;
      alternate_antenna = t.alternate_antenna;
    }
