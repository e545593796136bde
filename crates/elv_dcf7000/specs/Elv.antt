-- The string of an ELV DCF7000 clock, 21 bytes.
use Rattle.std.specs.Prelude.{ℕ, ◌+◌, ◌/◌, ◌%◌, Bool, false, cond, not, ◌&&◌, List, ◌++◌, eqb, ltb, ℤ}
use Rattle.clock_time.specs.Zone.{cet_offset}
use Rattle.clock_time.specs.Errors.{Answer}
use Rattle.clock_time.specs.Same.{eq_ℤ}
use Rattle.clock_time.specs.Writing.{Written}
use Rattle.clock_time.specs.declared.ClockTime.{ClockTime}
use Rattle.clock_time.specs.Lists.{ascii}
use Rattle.gregorian.specs.Date.{full_year, first_year}
use Rattle.calendar.specs.Date.{weekday_or_zero, with_weekday}
use Rattle.decimal.specs.Decimal.{digits}
use Rattle.layout.specs.Layout.{digit, places, number}
use Rattle.layout.specs.Text.{Format, clock_format, written_clock, read_text, write_text}

-- "`YY-MM-DD-HH-MM-SS-FF` and CR. The pattern in 002 has seven dashes; the layout has six and holds." (01, Meinberg and
-- ELV strings)
unfoldable pub elv_layout : List ℕ
elv_layout =
    places 2 digit ++ ascii "-" ++ places 2 digit ++ ascii "-" ++ places 2 digit
    ++ ascii "-" ++ places 2 digit ++ ascii "-" ++ places 2 digit ++ ascii "-" ++ places 2 digit
    ++ ascii "-" ++ places 2 digit ++ ascii "\r"

-- the number FF of "`YY-MM-DD-HH-MM-SS-FF` and CR" (01, Meinberg and ELV strings)
abbrev pub elv_flags : List ℕ → ℕ
elv_flags s = number 2 18 s

-- the fault of "FF is 00..07, else 4" (01, Meinberg and ELV strings); if one of its bytes is no digit, that is 3
unfoldable pub elv_flag_fault : List ℕ → Bool
elv_flag_fault s = ltb 7 (elv_flags s)

-- "1 summer (offset 120, else 60), 2 change coming, 4 unsynchronised" (01, Meinberg and ELV strings)
abbrev pub summer_in : ℕ → Bool
summer_in flags = eqb (flags % 2) 1

-- 2 is among the values that FF adds up
abbrev pub change_in : ℕ → Bool
change_in flags = eqb (flags / 2 % 2) 1

-- 4 is among the values that FF adds up
abbrev pub unsynchronised_in : ℕ → Bool
unsynchronised_in flags = eqb (flags / 4 % 2) 1

-- "1 summer (offset 120, else 60)" (01, Meinberg and ELV strings)
unfoldable pub elv_offset : Bool → ℤ
elv_offset summer = cet_offset summer

-- the fields that are sent, with 0 for a weekday
unfoldable pub sent_fields : List ℕ → ClockTime
sent_fields s =
    record {
      year = full_year first_year (number 2 0 s);
      month = number 2 3 s;
      day = number 2 6 s;
      weekday = 0;
      hour = number 2 9 s;
      minute = number 2 12 s;
      second = number 2 15 s;
      utc_offset = elv_offset (summer_in (elv_flags s));
      unsynchronised = unsynchronised_in (elv_flags s);
      unverified = false;
      summer_time = summer_in (elv_flags s);
      dst_change_announced = change_in (elv_flags s);
      leap_second_announced = false;
      alternate_antenna = false;
    }

-- "No weekday is sent; it is worked out from the date." (01, Meinberg and ELV strings)
unfoldable pub elv_fields : List ℕ → ClockTime
elv_fields s = with_weekday (sent_fields s)

-- FF: the values of the flags that are set, added up
unfoldable pub flag_sum : Bool → Bool → Bool → ℕ
flag_sum summer change unsynchronised = cond summer 1 0 + cond change 2 0 + cond unsynchronised 4 0

-- the layout with the fields of a clock time and FF in it
abbrev pub text_with : ClockTime → ℕ → List ℕ
text_with t flags =
    digits 2 t.year ++ ascii "-" ++ digits 2 t.month ++ ascii "-" ++ digits 2 t.day
    ++ ascii "-" ++ digits 2 t.hour ++ ascii "-" ++ digits 2 t.minute ++ ascii "-" ++ digits 2 t.second
    ++ ascii "-" ++ digits 2 flags ++ ascii "\r"

-- the only string that could be read as a clock time
unfoldable pub elv_text : ClockTime → List ℕ
elv_text t = text_with t (flag_sum t.summer_time t.dst_change_announced t.unsynchronised)

-- the clock times that an ELV string can represent, if they are readings (`is_representable` asks that)
unfoldable pub elv_representable : ClockTime → Bool
elv_representable t =
    eq_ℤ (elv_offset t.summer_time) t.utc_offset
    && eqb (weekday_or_zero t.year t.month t.day) t.weekday
    && not t.unverified
    && not t.leap_second_announced
    && not t.alternate_antenna

-- the format: its only fault beyond the shared ones is FF above 07
unfoldable pub elv : Format ClockTime
elv = clock_format elv_layout elv_flag_fault elv_fields

-- the reader, by the rule for every time string
unfoldable pub read_elv : List ℕ → Answer ClockTime
read_elv s = read_text elv s

-- the writer, by the rule for every time string
unfoldable pub write_elv : ClockTime → List ℕ → Written
write_elv t buffer = write_text (written_clock elv elv_text) t buffer
