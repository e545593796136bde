-- Readings as the numbers that C has, in their order, and how they are put into lent memory.
use Rattle.std.specs.Prelude.{ℕ, Bool, cond, List, [], ◌∷◌, ◌++◌, ltb, length, drop, ℤ, pos}
use Rattle.clock_time.specs.Errors.{Answer, given, checked}
use Rattle.clock_time.specs.Exit.{Exit, leaves}
use Rattle.clock_time.specs.declared.ClockTime.{ClockTime}
use Rattle.meinberg_gps.specs.declared.GpsTime.{GpsTime}
use Rattle.dcf77.specs.declared.MinuteTime.{MinuteTime}
use Rattle.trimble_sv6.specs.declared.TrimbleTime.{TrimbleTime}
use Rattle.clock_time.specs.Called.{leaving}

-- how many numbers a clock time is
abbrev pub time_count : ℕ
time_count = 14

-- how many a clock time with a position is
abbrev pub gps_count : ℕ
gps_count = 17

-- how many a minute is
abbrev pub minute_count : ℕ
minute_count = 16

-- how many a clock time with milliseconds is
abbrev pub trimble_count : ℕ
trimble_count = 15

-- a flag as a number: 1 if it is set, else 0
abbrev pub flag_number : Bool → ℤ
flag_number on = cond on (pos 1) (pos 0)

-- "Year, month, day, weekday (1 Monday to 7 Sunday), hour, minute, second, offset in minutes (local minus UTC, signed),
-- and six flags: unsynchronised, unverified, summer time, change coming, leap second coming, alternate antenna." (01,
-- The reading)
unfoldable pub time_numbers : ClockTime → List ℤ
time_numbers t =
    pos t.year
    ∷ pos t.month
    ∷ pos t.day
    ∷ pos t.weekday
    ∷ pos t.hour
    ∷ pos t.minute
    ∷ pos t.second
    ∷ t.utc_offset
    ∷ flag_number t.unsynchronised
    ∷ flag_number t.unverified
    ∷ flag_number t.summer_time
    ∷ flag_number t.dst_change_announced
    ∷ flag_number t.leap_second_announced
    ∷ flag_number t.alternate_antenna
    ∷ []

-- "A GPS string adds position and height" (01, The reading)
unfoldable pub gps_numbers : GpsTime → List ℤ
gps_numbers g =
    time_numbers g.time ++ (g.position.latitude ∷ g.position.longitude ∷ pos g.position.height ∷ [])

-- "a minute adds its marks 1..14 and whether it had 60 marks" (01, The reading)
unfoldable pub minute_numbers : MinuteTime → List ℤ
minute_numbers a = time_numbers a.time ++ (pos a.detail.first_marks ∷ flag_number a.detail.sixty ∷ [])

-- "The milliseconds are handed over beside the reading." (02, T-01)
unfoldable pub trimble_numbers : TrimbleTime → List ℤ
trimble_numbers g = time_numbers g.time ++ (pos g.milliseconds ∷ [])

-- 20: "lent memory: [..] a buffer too short to write to"; "it fills the first places it needs and changes nothing after
-- them" (01, Refusal numbers): numbers take the place of the first of those lent
unfoldable pub put_numbers : List ℤ → List ℤ → Exit (Unit {0}) (List ℤ)
put_numbers numbers lent =
    leaves lent (numbers ++ drop (length numbers) lent)
    (checked (given 20 (ltb (length lent) (length numbers)) ∷ []) tt)

-- the numbers of what a reader accepted take the place of the first of those lent; its refusal stays
unfoldable pub put_answer : {A : Type 0} → (A → List ℤ) → Answer A → List ℤ → Exit (Unit {0}) (List ℤ)
put_answer numbers a lent = leaving lent a (λ x. put_numbers (numbers x) lent)
