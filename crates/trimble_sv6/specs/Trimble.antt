-- The string of a Trimble SV6 receiver, 37 bytes.
use Rattle.std.specs.Prelude.{ℕ, false, not, List, [], ◌∷◌, ◌++◌, pos}
use Rattle.clock_time.specs.Errors.{Answer, given, checked}
use Rattle.clock_time.specs.Lists.{ascii}
use Rattle.clock_time.specs.declared.ClockTime.{ClockTime}
use Rattle.calendar.specs.Date.{with_weekday}
use Rattle.layout.specs.Layout.{digit, free, printable, places, number, has}
use Rattle.layout.specs.Text.{Format, supported_day, clock_checks, read_text}
use Rattle.trimble_sv6.specs.Sum.{sum_holds}
use Rattle.trimble_sv6.specs.declared.TrimbleTime.{TrimbleTime}

-- "`>RTM`, hh 4, mm 6, ss 8, ddd 10 (milliseconds), DD 13, MM 15, YYYY 17, oo 21, d 23, nn 24, v 26, rrrrr 27, `;*` 32,
-- xx 34, `<` 36. All digits but v, xx and rrrrr; rrrrr is any bytes from 32 to 126 (others give 2)" (02, T-01)
unfoldable pub trimble_layout : List ℕ
trimble_layout =
    ascii ">RTM" ++ places 22 digit ++ places 1 free ++ places 5 printable ++ ascii ";*" ++ places 2 free ++ ascii "<"

-- "Offset is 0, no flags" (02, T-01): the fields that are sent, with these and with 0 for a weekday
unfoldable pub sent_fields : List ℕ → ClockTime
sent_fields s =
    record {
      year = number 4 17 s;
      month = number 2 15 s;
      day = number 2 13 s;
      weekday = 0;
      hour = number 2 4 s;
      minute = number 2 6 s;
      second = number 2 8 s;
      utc_offset = pos 0;
      unsynchronised = false;
      unverified = false;
      summer_time = false;
      dst_change_announced = false;
      leap_second_announced = false;
      alternate_antenna = false;
    }

-- "ddd 10 (milliseconds)" (02, T-01)
unfoldable pub milliseconds_of : List ℕ → ℕ
milliseconds_of s = number 3 10 s

-- "weekday is worked out"; "The milliseconds are handed over beside the reading." (02, T-01)
unfoldable pub trimble_fields : List ℕ → TrimbleTime
trimble_fields s = record { time = with_weekday (sent_fields s); milliseconds = milliseconds_of s }

-- what is left to check once the sum and v hold
abbrev pub read_clock : List ℕ → Answer TrimbleTime
read_clock s =
    let t = (trimble_fields s).time in checked (clock_checks (supported_day t) t false) (trimble_fields s)

-- the format; "24, the sum is wrong or no hex, after 3; 25, v is not `1`, after 24"; "years 1970 to 2069, else 5" (02,
-- T-01). No place is a flag's of line 4, so that 4 is never given, and a date of these years has a weekday, so that 7
-- is not.
unfoldable pub trimble : Format TrimbleTime
trimble =
    record {
      layout = trimble_layout;
      flag_fault = λ s. false;
      own = λ s. given 24 (not (sum_holds s)) ∷ given 25 (not (has "1" 26 s)) ∷ [];
      supported = supported_day;
      mismatch = λ s. false;
      fields = trimble_fields;
      clock = λ g. g.time;
    }

-- the reader, by the rule for every time string
unfoldable pub read_trimble : List ℕ → Answer TrimbleTime
read_trimble s = read_text trimble s
