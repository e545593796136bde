-- The lines of document 01's table of refusals that each entry goes by, in words and in their order.
use Rattle.std.specs.Prelude.{ℕ, ◌≤◌, ◌<◌, ◌≡◌, ◌⊎◌, List, [], ◌∷◌, ◌++◌, length, take, ℤ}
use Rattle.clock_time.specs.Order.{Line, line}
use Rattle.clock_time.specs.declared.ClockTime.{ClockTime}
use Rattle.gregorian.specs.Rules.{GregorianDate}
use Rattle.calendar.specs.Rules.{ValidReading}
use Rattle.dcf77.specs.Lines.{minute_lines}
use Rattle.dcf77_outcome.specs.RunNumber.{HasMinute}
use Rattle.time_string.specs.Row.{kind_row}
use Rattle.time_string.specs.Kind.{kind_number}
use Rattle.time_string.specs.declared.Kind.{Kind}
use Rattle.c_numbers.specs.Numbers.{time_numbers, time_count, minute_count}
use Rattle.demands.specs.Accepted.{AcceptsNumbers}

-- ---- the orders
-- the numbers of refusals that only this kind has: 8 and 9 for GPS, none for the others
abbrev pub own_numbers : Kind → List ℕ
own_numbers kind = (kind_row kind).own

-- "For a minute: 11, 12, 13, 14, 15, 16, 17, 18, 7, 5, 6, 19" (01, Refusal numbers)
abbrev pub minute_order : List ℕ
minute_order = 11 ∷ 12 ∷ 13 ∷ 14 ∷ 15 ∷ 16 ∷ 17 ∷ 18 ∷ 7 ∷ 5 ∷ 6 ∷ 19 ∷ []

-- ---- strings
-- the lines of a string of a kind
abbrev pub lines_as : Kind → List ℕ → List Line
lines_as kind s = (kind_row kind).lines s

-- "66 long is GPS; 32 long is standard [..], else PZF; 21 long is ELV; any other length is refused with 1." (01,
-- Meinberg and ELV strings)
abbrev pub kind_lines : List ℕ → List Line
kind_lines s = line 1 ((kind : Kind) → length s ≡ (kind_row kind).long → ⊥) ∷ []

-- ---- writers
-- "For a writer: 23, 20" (01, Refusal numbers); `Reads s` says that the string or run s is read as what is to
-- be written
abbrev pub writer_lines : (List ℕ → Type 0) → List ℕ → List Line
writer_lines Reads buffer =
    -- "reading that no accepted string or minute of this format gives"
    line 23 ((s : List ℕ) → Reads s → ⊥)
    -- "a buffer too short to write to"
    ∷ line 20 ((s : List ℕ) × (Reads s × (length buffer < length s)))
    ∷ []

-- ---- recordings
-- 20: "tape over 100,000"; 21: "place at or past the tape's end" (01, Refusal numbers), in the order of a correction,
-- since 01 gives no order for the number at one place
abbrev pub outcome_lines : List ℕ → ℕ → List Line
outcome_lines marks place = line 20 (100000 < length marks) ∷ line 21 (length marks ≤ place) ∷ []

-- 23: "reading that no accepted string or minute of this format gives" (01, Refusal numbers): no accepted minute has
-- the number n
abbrev pub outcome_time_lines : ℕ → List Line
outcome_time_lines n = line 23 (HasMinute n → ⊥) ∷ []

-- 20: "sheet and tape lengths differ, tape over 100,000" (01, Refusal numbers)
abbrev pub fill_lines : List ℕ → List ℕ → List Line
fill_lines marks outcomes = line 20 ((length marks ≡ length outcomes → ⊥) ⊎ (100000 < length marks)) ∷ []

-- "For a correction: 20, 21, 22." (01, Refusal numbers)
abbrev pub correction_lines : List ℕ → List ℕ → ℕ → ℕ → List Line
correction_lines marks outcomes place mark =
    -- "sheet and tape lengths differ, tape over 100,000"
    line 20 ((length marks ≡ length outcomes → ⊥) ⊎ (100000 < length marks))
    -- "place at or past the tape's end"
    ∷ line 21 (length marks ≤ place)
    -- "new mark above 3"
    ∷ line 22 (3 < mark)
    ∷ []

-- ---- the instant and dates
-- "Refused with 23 where the fields are no valid reading" (01, The reading)
abbrev pub instant_lines : ClockTime → List Line
instant_lines t = line 23 (ValidReading t → ⊥) ∷ []

-- 5: "no such date" (01, Refusal numbers), also outside 1970 to 2069
abbrev pub date_lines : ℕ → ℕ → ℕ → List Line
date_lines year month day = line 5 (((1970 ≤ year) × (year ≤ 2069) × GregorianDate year month day) → ⊥) ∷ []

-- ---- from C
-- "an unknown kind number from C gives 1" (01, Meinberg and ELV strings)
abbrev pub unknown_kind : ℕ → Line
unknown_kind n = line 1 ((kind : Kind) → n ≡ kind_number kind → ⊥)

-- how many numbers a reading of a kind has
abbrev pub number_count : Kind → ℕ
number_count kind = length (kind_row kind).ranges

-- 20: "lent memory: [..] a buffer too short to write to" (01, Refusal numbers): fewer numbers are lent than are
-- to be put
abbrev pub no_room_for : ℕ → List ℤ → Line
no_room_for count fields = line 20 (length fields < count)

-- the lines of the kind's reader, then the room: 01 gives no order for these, so 20 comes last, as in a writer
abbrev pub read_lines : Kind → List ℕ → List ℤ → List Line
read_lines kind s fields = lines_as kind s ++ (no_room_for (number_count kind) fields ∷ [])

-- the kind, and then the lines of a writer of these numbers: without a kind there is no format that could refuse, so 1
-- comes first
abbrev pub write_lines : ℕ → List ℤ → List ℕ → List Line
write_lines n z buffer = unknown_kind n ∷ writer_lines (λ s. AcceptsNumbers n s z) buffer

-- the lines of the minute's reader, then the room
abbrev pub read_minute_lines : List ℕ → List ℤ → List Line
read_minute_lines m fields = minute_lines m ++ (no_room_for minute_count fields ∷ [])

-- "Refused with 23 where the fields are no valid reading" (01, The reading): the first 14 numbers are those of no valid
-- reading
abbrev pub instant_lines_of : List ℤ → List Line
instant_lines_of z = line 23 ((t : ClockTime) → ValidReading t → take time_count z ≡ time_numbers t → ⊥) ∷ []

-- 20: "a buffer too short to write to" (01, Refusal numbers): the feed's state has 68 bytes
abbrev pub feed_lines : List ℕ → List Line
feed_lines state = line 20 (length state < 68) ∷ []
