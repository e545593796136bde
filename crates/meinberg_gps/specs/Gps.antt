-- The Meinberg GPS string, 66 bytes.
use Rattle.std.specs.Prelude.{ℕ, ◌+◌, ◌*◌, Bool, false, not, ◌&&◌, List, [], ◌∷◌, ◌++◌, leb, eqb, get_or, ℤ}
use Prim.Native.Char.{code}
use Rattle.std.specs.Bool.{beq}
use Rattle.clock_time.specs.Errors.{Answer, given, checked}
use Rattle.clock_time.specs.Same.{same_time, same_position}
use Rattle.clock_time.specs.Writing.{Written}
use Rattle.clock_time.specs.declared.ClockTime.{ClockTime}
use Rattle.clock_time.specs.declared.Position.{Position}
use Rattle.clock_time.specs.Lists.{ascii, slice}
use Rattle.layout.specs.Layout.{digit, free, flag, places, number, has}
use Rattle.layout.specs.Meinberg.{clock_with_flags}
use Rattle.layout.specs.Text.{Format, WrittenFormat, supported_day, clock_checks, read_text, write_text, letter}
use Rattle.signed.specs.Signed.{signed, sign_holds}
use Rattle.signed.specs.Offset.{offset_text}
use Rattle.meinberg_gps_position.specs.Position.{position_fault, position_of, position_text}
use Rattle.meinberg_pzf.specs.Pzf.{pzf_text}
use Rattle.meinberg_gps.specs.declared.GpsTime.{GpsTime}

-- "As PZF up to place 22; blank at 23; sign at 24; offset digits at 25, 26, 28, 29 with `:` at 27; `;` 30; blank 31;
-- flags uvxyzab at 32..38; `;` 39; blank 40; latitude 41..48; blank 49; longitude 50..58; blank 59; height 60..63; `m`
-- 64; ETX 65." PZF begins "`STX dd.mm.yy; w; hh:mm:ss; [..]`". (01, Meinberg and ELV strings)
unfoldable pub gps_layout : List ℕ
gps_layout =
    ascii "\u{2}" ++ places 2 digit ++ ascii "." ++ places 2 digit ++ ascii "." ++ places 2 digit
    ++ ascii "; " ++ places 1 digit
    ++ ascii "; " ++ places 2 digit ++ ascii ":" ++ places 2 digit ++ ascii ":" ++ places 2 digit
    ++ ascii "; " ++ places 1 free ++ places 2 digit ++ ascii ":" ++ places 2 digit
    ++ ascii "; " ++ (flag "#" ∷ flag "*" ∷ flag "S" ∷ flag "!" ∷ flag "A" ∷ flag "R" ∷ flag "L" ∷ [])
    ++ ascii "; " ++ places 2 free ++ ascii "." ++ places 5 free
    ++ ascii " " ++ places 3 free ++ ascii "." ++ places 5 free
    ++ ascii " " ++ places 4 free ++ ascii "m\u{3}"

-- ---- the offset
-- "offset digits at 25, 26, 28, 29 with `:` at 27" (01, Meinberg and ELV strings), in minutes
abbrev pub offset_magnitude : List ℕ → ℕ
offset_magnitude s = 60 * number 2 25 s + number 2 28 s

-- "Offset at most 14:00 either way, its minutes at most 59; `-00:00` is refused with 8." (01, Meinberg and ELV strings)
-- 8: "offset sign or size" (01, Refusal numbers), so a byte at 24 that is no sign too
unfoldable pub offset_fault : List ℕ → Bool
offset_fault s = not (leb (number 2 28 s) 59 && sign_holds (code "+") (code "-") 840 (get_or s 24 0) (offset_magnitude s))

-- "offset in minutes (local minus UTC, signed)" (01, The reading)
unfoldable pub offset_of : List ℕ → ℤ
offset_of s = signed (has "-" 24 s) (offset_magnitude s)

-- ---- the fields
-- "b must be `L` exactly if the second is 60 (wrong letter 4, mismatch 6)." (01, Meinberg and ELV strings)
unfoldable pub leap_mismatch : List ℕ → Bool
leap_mismatch s = not (beq (has "L" 38 s) (eqb (number 2 20 s) 60))

-- "As PZF up to place 22"; "flags uvxyzab at 32..38"; "The offset rules; x is only the summer flag." (01, Meinberg and
-- ELV strings): the date starts at place 1, the weekday stands at 11, the time starts at 14, u at 32
unfoldable pub clock_of : List ℕ → ClockTime
clock_of s = clock_with_flags s 1 11 14 32 (offset_of s)

-- what is left to check once the offset and the position hold
abbrev pub read_clock : List ℕ → Position → Answer GpsTime
read_clock s p =
    checked (clock_checks (supported_day (clock_of s)) (clock_of s) (leap_mismatch s))
    (record { time = clock_of s; position = p })

-- what a string says: "A GPS string adds position and height" (01, The reading) to a clock time
unfoldable pub gps_fields : List ℕ → GpsTime
gps_fields s = record { time = clock_of s; position = position_of s }

-- the layout with the bytes of a PZF string in it, "As PZF up to place 22" (01, Meinberg and ELV strings) and the flags
-- from u to a as there, those of an offset, a letter for second 60 and the bytes of a position
unfoldable pub text_with : List ℕ → List ℕ → ℕ → List ℕ → List ℕ
text_with pzf offset leap position =
    slice 0 24 pzf ++ slice 0 6 offset
    ++ ascii "; " ++ slice 25 6 pzf ++ (leap ∷ [])
    ++ ascii "; " ++ slice 0 23 position ++ ascii "m\u{3}"

-- the only string that could be read as a clock time and a position
unfoldable pub gps_text : GpsTime → List ℕ
gps_text g =
    let t = g.time in
    text_with (pzf_text t) (offset_text t.utc_offset) (letter (eqb t.second 60) "L") (position_text g.position)

-- two clock times with positions are the same
unfoldable pub same_gps : GpsTime → GpsTime → Bool
same_gps a b = same_time a.time b.time && same_position a.position b.position

-- the format, with all the faults that GPS strings have beyond the shared ones; 8: "offset sign or size"; 9: "position"
-- (01, Refusal numbers)
unfoldable pub gps : Format GpsTime
gps =
    record {
      layout = gps_layout;
      flag_fault = λ s. false;
      own = λ s. given 8 (offset_fault s) ∷ given 9 (position_fault s) ∷ [];
      supported = supported_day;
      mismatch = leap_mismatch;
      fields = gps_fields;
      clock = λ g. g.time;
    }

-- the same, written too
unfoldable pub written_gps : WrittenFormat GpsTime
written_gps = record { format = gps; text = gps_text; same = same_gps }

-- the reader, by the rule for every time string
unfoldable pub read_gps : List ℕ → Answer GpsTime
read_gps s = read_text gps s

-- the writer, by the rule for every time string
unfoldable pub write_gps : GpsTime → List ℕ → Written
write_gps g buffer = write_text written_gps g buffer
