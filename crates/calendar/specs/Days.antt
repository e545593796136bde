-- The days from 1 January 1970 on, walked one by one, in words and with no formula.
use Rattle.std.specs.Prelude.{ℕ, suc, ◌+◌, ◌*◌, ◌≤◌, ◌<◌, ◌≡◌}
use Rattle.gregorian.specs.Rules.{GregorianDate}

-- "days since 1 January 1970" (01, The reading): the date is n days after it. The day after a date is the next of its
-- month; after a month's last day the first of the next month; and after 31 December 1 January of the next year.
pub data DayAfter : (n year month day : ℕ) → Type 0 where
  epoch : DayAfter 0 1970 1 1
  next_day : {n year month day : ℕ} → DayAfter n year month day → GregorianDate year month (suc day)
      → DayAfter (suc n) year month (suc day)
  next_month : {n year month day : ℕ} → DayAfter n year month day → (GregorianDate year month (suc day) → ⊥)
      → month < 12 → DayAfter (suc n) year (suc month) 1
  next_year : {n year : ℕ} → DayAfter n year 12 31 → DayAfter (suc n) (suc year) 1 1

-- "weekday (1 Monday to 7 Sunday)" (01, The reading): the weekday of a date from 1970 on
pub record OnWeekday (year month day weekday : ℕ) : Type 0 where
  pub days : ℕ
  pub date : DayAfter days year month day
  -- 1 January 1970 was a Thursday, the fourth day of its week, and a week has seven days
  pub weeks : ℕ
  pub thursday : days + 4 ≡ 7 * weeks + weekday
  pub weekday_least : 1 ≤ weekday
  pub weekday_most : weekday ≤ 7
