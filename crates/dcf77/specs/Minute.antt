-- One DCF77 minute: the marks between two gaps, and the time that they announce.
use Rattle.std.specs.Prelude.{ℕ, ◌/◌, ◌%◌, Bool, false, cond, not, ◌&&◌, ◌||◌, List, [], ◌∷◌, ◌++◌, leb, eqb, length, get_or}
use Rattle.std.specs.Bool.{beq}
use Rattle.clock_time.specs.Zone.{cet_offset}
use Rattle.clock_time.specs.Errors.{Answer, Check, given, checked}
use Rattle.clock_time.specs.Same.{same_time}
use Rattle.clock_time.specs.Writing.{Written, write_back}
use Rattle.clock_time.specs.declared.ClockTime.{ClockTime}
use Rattle.clock_time.specs.Lists.{sum}
use Rattle.gregorian.specs.Date.{date_exists, full_year, first_year}
use Rattle.calendar.specs.TimeOfDay.{time_exists}
use Rattle.dcf77.specs.Marks.{long, short, all_sure, binary, two_digits, is_odd, bits}
use Rattle.dcf77.specs.declared.MinuteTime.{MinuteTime}

-- "15 antenna (PTB now calls it a call bit; here the sources' name stays); 16 change coming; 17, 18 zone: 0 1 offset
-- 60, 1 0 offset 120 and summer time; 19 leap second coming
-- [..] minute 21..24 and tens 25..27, parity 28; hour 29..32, tens 33..34, parity 35; day 36..39, tens 40..41; weekday
-- 42..44; month 45..48, ten 49; year 50..53, tens 54..57; parity 58. The sources give 45..49 and 50 for the month and
-- 51..53 for the year: PTB decides. [..] A minute announces the time at which the next minute starts, second 0; the
-- zone is that of the announced time." (01, DCF77 marks)
unfoldable pub announced : List ℕ → ClockTime
announced m =
    record {
      year = full_year first_year (two_digits 50 4 m);
      month = two_digits 45 1 m;
      day = two_digits 36 2 m;
      weekday = binary 3 42 m;
      hour = two_digits 29 2 m;
      minute = two_digits 21 3 m;
      second = 0;
      utc_offset = cet_offset (long 17 m);
      unsynchronised = false;
      unverified = false;
      summer_time = long 17 m;
      dst_change_announced = long 16 m;
      leap_second_announced = long 19 m;
      alternate_antenna = long 15 m;
    }

-- "1..14 kept as sent" (01, DCF77 marks); "a minute adds its marks 1..14 and whether it had 60 marks" (01, The
-- reading); mark 1 is the lowest bit of `first_marks`
unfoldable pub minute_fields : List ℕ → MinuteTime
minute_fields m =
    record {
      time = announced m;
      detail = record { first_marks = binary 14 1 m; sixty = eqb (length m) 60 };
    }

-- "For a minute: 11, 12, 13, 14, 15, 16, 17, 18, 7, 5, 6, 19" (01, Refusal numbers), each line of the table at its
-- number; `Lines` quotes them
unfoldable pub minute_checks : List ℕ → List Check
minute_checks m =
    let t = announced m in
    given 11 (not (eqb (length m) 59 || eqb (length m) 60))
    ∷ given 12 (not (all_sure m))
    ∷ given 13 (not (short 0 m && long 20 m))
    ∷ given 14 (eqb (get_or m 17 0) (get_or m 18 0))
    ∷ given 15 (is_odd 8 21 m)
    ∷ given 16 (is_odd 7 29 m)
    ∷ given 17 (is_odd 23 36 m)
    ∷ given 18
    (not
    (leb (binary 4 21 m) 9 && leb (binary 4 29 m) 9 && leb (binary 4 36 m) 9 && leb (binary 4 45 m) 9
    && leb (binary 4 50 m) 9 && leb (binary 4 54 m) 9))
    ∷ given 7 (not (leb 1 t.weekday && leb t.weekday 7))
    ∷ given 5 (not (date_exists t.year t.month t.day))
    ∷ given 6 (not (time_exists t.hour t.minute t.second t.utc_offset))
    ∷ given 19 (eqb (length m) 60 && not (long 19 m && short 59 m && eqb t.minute 0))
    ∷ []

-- "Each number is given when its line holds and no earlier one does, and never otherwise." (01, Refusal numbers)
unfoldable pub read_minute : List ℕ → Answer MinuteTime
read_minute m = checked (minute_checks m) (minute_fields m)

-- ---- written back
-- a long mark for what holds, a short one for what does not
abbrev pub mark : Bool → ℕ
mark on = cond on 1 0

-- "Parity is even over 21..28, 29..35 and 36..58." (01, DCF77 marks): marks, and the one that makes their sum even
abbrev pub with_parity : List ℕ → List ℕ
with_parity m = m ++ (sum m % 2 ∷ [])

-- the only 59 marks that could announce a minute's time, at the places that `announced` quotes; "20 start" (01, DCF77
-- marks)
unfoldable pub first_marks_of : MinuteTime → List ℕ
first_marks_of a =
    let t = a.time in
    0 ∷ bits 14 a.detail.first_marks
    ++ (mark t.alternate_antenna ∷ mark t.dst_change_announced ∷ [])
    ++ (mark t.summer_time ∷ mark (not t.summer_time) ∷ mark t.leap_second_announced ∷ 1 ∷ [])
    ++ with_parity (bits 4 (t.minute % 10) ++ bits 3 (t.minute / 10))
    ++ with_parity (bits 4 (t.hour % 10) ++ bits 2 (t.hour / 10))
    ++ with_parity
    (bits 4 (t.day % 10) ++ bits 2 (t.day / 10) ++ bits 3 t.weekday
    ++ bits 4 (t.month % 10) ++ bits 1 (t.month / 10) ++ bits 4 (t.year % 10) ++ bits 4 (t.year / 10 % 10))

-- "Second 59 has no mark, except before a leap second, when the gap is one later." (01, DCF77 marks); "mark 59 short"
-- (01, Refusal numbers, 19)
unfoldable pub minute_text : MinuteTime → List ℕ
minute_text a = first_marks_of a ++ cond a.detail.sixty (0 ∷ []) []

-- two minutes agree in every field
unfoldable pub same_minute : MinuteTime → MinuteTime → Bool
same_minute a b =
    same_time a.time b.time
    && eqb a.detail.first_marks b.detail.first_marks
    && beq a.detail.sixty b.detail.sixty

-- "For a writer: 23, 20; it fills the first places it needs and changes nothing after them." (01, Refusal numbers)
unfoldable pub write_minute : MinuteTime → List ℕ → Written
write_minute a buffer = write_back read_minute minute_text same_minute a buffer
