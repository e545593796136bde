-- The date in a clock time.
use Rattle.clock_time.specs.declared.ClockTime.{ClockTime}
use Rattle.clock_time.specs.declared.Date.{Date}

-- "year 1970 to 2069, month, day" (01, The reading)
abbrev pub date_of : ClockTime → Date
date_of t = record { year = t.year; month = t.month; day = t.day }
