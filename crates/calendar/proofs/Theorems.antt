-- The main results of the calendar: what is counted and answered is what a walk through the calendar finds, and second
-- 60 ends at midnight.
use Prim.Native.Nat.{ℕ, ◌≤◌}
use mathlib.Core.Path.{◌≡◌}
use mathlib.Core.Logic.{◌↔◌}
use mathlib.Core.Bool.{true}
use lib.IntN.{ℤ, pos, ◌*ℤ◌}
use Rattle.clock_time.specs.Errors.{accepted}
use Rattle.clock_time.specs.declared.ClockTime.{ClockTime}
use Rattle.gregorian.specs.Rules.{GregorianDate}
use Rattle.calendar.specs.Date.{days_since_epoch, day_number, weekday_number, weekday_of}
use Rattle.calendar.specs.Days.{DayAfter, OnWeekday}
use Rattle.calendar.specs.UnixTime.{is_reading, instant_of}
use Rattle.calendar.proofs.DaysLaws.{counted, walked, weekday_counted, day_answered, weekday_answered}
use Rattle.calendar.proofs.MidnightLaws as midnight

-- "days since 1 January 1970" (01, The reading): every date from 1970 on is walked to, and after as many days as the
-- sum of its years, months and days has
pub day_after_exactly : (n year month day : ℕ) → DayAfter n year month day
    ↔ (GregorianDate year month day × (1970 ≤ year) × (n ≡ days_since_epoch year month day))
day_after_exactly n year month day = (counted, walked n year month day)

-- "weekday (1 Monday to 7 Sunday)" (01, The reading): every date from 1970 on has one weekday, and it is the one that
-- is worked out
pub on_weekday_exactly : (year month day w : ℕ) → OnWeekday year month day w
    ↔ (GregorianDate year month day × (1970 ≤ year) × (w ≡ weekday_number year month day))
on_weekday_exactly = weekday_counted

-- the days that `day_number` answers: those of the walk, up to 2069
pub day_number_exactly : (year month day n : ℕ)
    → (day_number year month day ≡ accepted n) ↔ (DayAfter n year month day × (year ≤ 2069))
day_number_exactly = day_answered

-- the weekday that `weekday_of` answers: that of the walk, up to 2069
pub weekday_of_exactly : (year month day w : ℕ)
    → (weekday_of year month day ≡ accepted w) ↔ (OnWeekday year month day w × (year ≤ 2069))
weekday_of_exactly = weekday_answered

-- "Second 60 has the instant of the second after it." (01, The reading): that second starts a day in UTC, so the
-- instant is a multiple of 86,400
pub second_60_midnight : (t : ClockTime) → is_reading t ≡ true → t.second ≡ 60
    → (days : ℤ) × (instant_of t ≡ pos 86400 *ℤ days)
second_60_midnight = midnight.second_60_midnight
