-- The worked examples P1 to P11 of document 01 (01, Examples (P: proved)), as one table.
use Rattle.std.specs.Prelude.{ℕ, ◌≡◌, Result, Ok, Err, false, List, [], ◌∷◌, ◌++◌, ℤ, pos, length, replicate, set}
use Rattle.clock_time.specs.declared.Error.{Error}
use Rattle.clock_time.specs.declared.ClockTime.{ClockTime}
use Rattle.clock_time.specs.Errors.{Answer, accepted, refused}
use Rattle.clock_time.specs.Lists.{ascii}
use Rattle.calendar.specs.UnixTime.{unix_time}
use Rattle.meinberg_gps.specs.Gps.{read_gps}
use Rattle.meinberg_gps.specs.declared.GpsTime.{GpsTime}
use Rattle.dcf77.specs.Minute.{read_minute}
use Rattle.dcf77_outcome.specs.Number.{run_number}
use Rattle.dcf77.specs.declared.MinuteTime.{MinuteTime}
use Rattle.recording.specs.Recording.{filling, fill_outcomes, correction, correct_mark}

-- ---- what an example says
pub data Example : Type 0 where
  -- a GPS string, and what it is read as
  string : List ℕ → Answer GpsTime → Example
  -- a clock time, and its instant
  instant : ClockTime → Answer ℤ → Example
  -- a run of marks, what it is read as, and its number
  run : List ℕ → Answer MinuteTime → ℕ → Example
  -- a recording, and its outcomes
  outcomes : List ℕ → List ℕ → Example
  -- a recording and its outcomes, a place and a new mark; what the correction answers, and what it leaves of the two
  corrected : List ℕ → List ℕ → ℕ → ℕ → Result ℕ Error → List ℕ → List ℕ → Example

-- the library's definitions give what the example says; a recording's outcomes go into memory that held other numbers
abbrev pub Holds : Example → Type 0
Holds (string s answer) = read_gps s ≡ answer
Holds (instant t answer) = unix_time t ≡ answer
Holds (run m answer number) = (read_minute m ≡ answer) × (run_number m ≡ number)
Holds (outcomes m o) = fill_outcomes m (replicate (length m) 7) ≡ filling (Ok tt) o
Holds (corrected m o place mark answer m' o') = correct_mark m o place mark ≡ correction answer m' o'

-- every example of a table holds
abbrev pub AllHold : List Example → Type 0
AllHold [] = Unit {0}
AllHold (x ∷ xs) = Holds x × AllHold xs

-- ---- the examples
-- a clock time with no flag
abbrev pub clock_time_of : ℕ → ℕ → ℕ → ℕ → ℕ → ℕ → ℕ → ℤ → ClockTime
clock_time_of year month day weekday hour minute second offset =
    record {
      year = year;
      month = month;
      day = day;
      weekday = weekday;
      hour = hour;
      minute = minute;
      second = second;
      utc_offset = offset;
      unsynchronised = false;
      unverified = false;
      summer_time = false;
      dst_change_announced = false;
      leap_second_announced = false;
      alternate_antenna = false;
    }

-- "P1 `STX 09.07.93; 5; 08:48:26; +00:00;        ; 49.5736N  11.0280E  373m ETX` without print blanks beside STX and
-- ETX (002): 1993, Friday, 495,736 and 110,280."
abbrev pub p1 : Example
p1 =
    string (ascii "\u{2}09.07.93; 5; 08:48:26; +00:00;        ; 49.5736N  11.0280E  373m\u{3}")
    (accepted
    (record {
      time = clock_time_of 1993 7 9 5 8 48 26 (pos 0);
      position = record { latitude = pos 495736; longitude = pos 110280; height = 373 };
    }))

-- "P2 2006-11-08 14:39:39 at 0: instant 1,162,996,779."; the weekday, a Wednesday, and the flags play no part
abbrev pub p2 : Example
p2 = instant (clock_time_of 2006 11 8 3 14 39 39 (pos 0)) (accepted (pos 1162996779))

-- "P3 marks 0..20 all 0 but 18 and 20; then `10011100`, `0010100`, `00010011010001011000001`: Wednesday 2006-11-08
-- 14:39, +60, sheet 620,265,028."
abbrev pub marks3 : List ℕ
marks3 =
    replicate 18 0
    ++ (1 ∷ 0 ∷ 1 ∷ [])
    ++ (1 ∷ 0 ∷ 0 ∷ 1 ∷ 1 ∷ 1 ∷ 0 ∷ 0 ∷ [])
    ++ (0 ∷ 0 ∷ 1 ∷ 0 ∷ 1 ∷ 0 ∷ 0 ∷ [])
    ++ (0 ∷ 0 ∷ 0 ∷ 1 ∷ 0 ∷ 0 ∷ 1 ∷ 1 ∷ 0 ∷ 1 ∷ 0 ∷ 0 ∷ 0 ∷ 1 ∷ 0 ∷ 1 ∷ 1 ∷ 0 ∷ 0 ∷ 0 ∷ 0 ∷ 0 ∷ 1 ∷ [])

-- what P3 reads
abbrev pub minute3 : MinuteTime
minute3 = record { time = clock_time_of 2006 11 8 3 14 39 0 (pos 60); detail = record { first_marks = 0; sixty = false } }

-- P3
abbrev pub p3 : Example
p3 = run marks3 (accepted minute3) 620265028

-- "P4 gap, P3, gap: places 0 and 60 hold 10 and 620,265,028, the rest 0."
abbrev pub marks4 : List ℕ
marks4 = 2 ∷ marks3 ++ (2 ∷ [])

-- the outcomes of P4
abbrev pub outcomes4 : List ℕ
outcomes4 = 10 ∷ replicate 59 0 ++ (620265028 ∷ [])

-- P4
abbrev pub p4 : Example
p4 = outcomes marks4 outcomes4

-- "P5 on P4 a gap put at 30: 30 and 60 hold 11; count 2."
abbrev pub p5 : Example
p5 =
    corrected marks4 outcomes4 30 2 (Ok 2) (set marks4 30 2) (set (set outcomes4 30 11) 60 11)

-- "P6 instead short at 60: 60 holds 0; count 1."
abbrev pub p6 : Example
p6 = corrected marks4 outcomes4 60 0 (Ok 1) (set marks4 60 0) (set outcomes4 60 0)

-- "P7 instead place 30's own mark again: count 0."
abbrev pub p7 : Example
p7 = corrected marks4 outcomes4 30 0 (Ok 0) marks4 outcomes4

-- "P8 instead place 61: 21."
abbrev pub p8 : Example
p8 = corrected marks4 outcomes4 61 0 (Err Error.Place) marks4 outcomes4

-- "P9 gap, gap: 10, 11."
abbrev pub p9 : Example
p9 = outcomes (2 ∷ 2 ∷ []) (10 ∷ 11 ∷ [])

-- "P10 P3 with mark 28 long: 15."
abbrev pub p10 : Example
p10 = run (set marks3 28 1) (refused 15) 15

-- "P11 P3 with one short mark added at its end: 19."
abbrev pub p11 : Example
p11 = run (marks3 ++ (0 ∷ [])) (refused 19) 19

-- P1 to P11
abbrev pub examples : List Example
examples = p1 ∷ p2 ∷ p3 ∷ p4 ∷ p5 ∷ p6 ∷ p7 ∷ p8 ∷ p9 ∷ p10 ∷ p11 ∷ []
