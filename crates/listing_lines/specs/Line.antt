-- The line of a clock time.
use Rattle.std.specs.Prelude.{ℕ, Bool, cond, List, [], ◌∷◌, ◌++◌, eqb}
use Prim.Native.Char.{Char, code}
use Rattle.signed.specs.Offset.{offset_text}
use Rattle.clock_time.specs.Writing.{Written, writing}
use Rattle.clock_time.specs.declared.ClockTime.{ClockTime}
use Rattle.clock_time.specs.Lists.{ascii}
use Rattle.calendar.specs.UnixTime.{is_reading}
use Rattle.decimal.specs.Decimal.{digits}

-- a letter if a flag is set, else a dash
abbrev pub letter_or_dash : Bool → Char → ℕ
letter_or_dash on c = cond on (code c) (code "-")

-- "Flags in order `#*S!ARL`, a dash for none, L for second 60." (01, Examples (P: proved))
unfoldable pub flags_text : ClockTime → List ℕ
flags_text t =
    letter_or_dash t.unsynchronised "#"
    ∷ letter_or_dash t.unverified "*"
    ∷ letter_or_dash t.summer_time "S"
    ∷ letter_or_dash t.dst_change_announced "!"
    ∷ letter_or_dash t.leap_second_announced "A"
    ∷ letter_or_dash t.alternate_antenna "R"
    ∷ letter_or_dash (eqb t.second 60) "L"
    ∷ []

-- "2006-11-08 14:39:39 +01:00 -------", "each line ended by LF" (01, Examples (P: proved)), with the bytes of the
-- offset and of the flags
unfoldable pub line_with : ClockTime → List ℕ → List ℕ → List ℕ
line_with t offset flags =
    digits 4 t.year ++ ascii "-" ++ digits 2 t.month ++ ascii "-" ++ digits 2 t.day
    ++ ascii " " ++ digits 2 t.hour ++ ascii ":" ++ digits 2 t.minute ++ ascii ":" ++ digits 2 t.second
    ++ ascii " " ++ offset
    ++ ascii " " ++ flags ++ ascii "\n"

-- the line of a clock time
unfoldable pub time_line : ClockTime → List ℕ
time_line t = line_with t (offset_text t.utc_offset) (flags_text t)

-- "Refused with 23 where the fields are no valid reading" (01, The reading); "For a writer: 23, 20" (01, Refusal
-- numbers)
unfoldable pub write_line : ClockTime → List ℕ → Written
write_line t buffer = writing (is_reading t) (time_line t) buffer
