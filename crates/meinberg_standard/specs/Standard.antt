-- The Meinberg standard string, 32 bytes.
use Rattle.std.specs.Prelude.{ℕ, Bool, false, cond, not, ◌&&◌, List, ◌∷◌, ◌++◌, eqb, get_or, ℤ, pos}
use Prim.Native.Char.{code}
use Rattle.clock_time.specs.Zone.{cet_offset}
use Rattle.clock_time.specs.Errors.{Answer}
use Rattle.clock_time.specs.Same.{eq_ℤ}
use Rattle.clock_time.specs.Writing.{Written}
use Rattle.clock_time.specs.declared.ClockTime.{ClockTime}
use Rattle.clock_time.specs.Lists.{ascii}
use Rattle.decimal.specs.Decimal.{digits}
use Rattle.layout.specs.Layout.{digit, flag, either, places, has}
use Rattle.layout.specs.Meinberg.{clock_at}
use Rattle.layout.specs.Text.{Format, clock_format, written_clock, read_text, write_text, letter}

-- "`STX D:dd.mm.yy;T:w;U:hh.mm.ss;uvxy ETX` (the blanks beside STX and ETX are only for print). [..] The time has dots:
-- 002 shows colons in the layout, dots in its pattern. Dots hold." (01, Meinberg and ELV strings)
unfoldable pub standard_layout : List ℕ
standard_layout =
    ascii "\u{2}D:" ++ places 2 digit ++ ascii "." ++ places 2 digit ++ ascii "." ++ places 2 digit
    ++ ascii ";T:" ++ places 1 digit
    ++ ascii ";U:" ++ places 2 digit ++ ascii "." ++ places 2 digit ++ ascii "." ++ places 2 digit
    ++ ascii ";" ++ (flag "#" ∷ flag "*" ∷ either "U" "S" ∷ either "!" "A" ∷ ascii "\u{3}")

-- "x `U` (offset 0), `S` (offset 120, summer time) or blank (offset 60)" (01, Meinberg and ELV strings)
unfoldable pub standard_zone : ℕ → ℤ
standard_zone x = cond (eqb x (code "U")) (pos 0) (cet_offset (eqb x (code "S")))

-- "Flags at 27..30. u is `#` or blank (unsynchronised); v `*` or blank (unverified); x [..]; y `!` (change coming), `A`
-- (leap second coming) or blank. [..] 002 counts Sunday as 0; 1..7 holds." (01, Meinberg and ELV strings); the date
-- starts at place 3, the weekday stands at 14, the time starts at 18
unfoldable pub standard_fields : List ℕ → ClockTime
standard_fields s =
    clock_at s 3 14 18 (standard_zone (get_or s 29 0)) (has "#" 27 s) (has "*" 28 s) (has "S" 29 s) (has "!" 30 s)
    (has "A" 30 s) false

-- the only letter of a zone that could be read as an offset and a summer flag
unfoldable pub zone_letter : ℤ → Bool → ℕ
zone_letter offset summer = cond summer (code "S") (cond (eq_ℤ offset (pos 0)) (code "U") 32)

-- the only letter of what is announced that could be read as these two flags; `!` if both are, which no letter says
unfoldable pub announced_letter : Bool → Bool → ℕ
announced_letter change leap = cond change (code "!") (letter leap "A")

-- the layout with the fields of a clock time and four letters in it
abbrev pub text_with : ClockTime → ℕ → ℕ → ℕ → ℕ → List ℕ
text_with t u v x y =
    ascii "\u{2}D:" ++ digits 2 t.day ++ ascii "." ++ digits 2 t.month ++ ascii "." ++ digits 2 t.year
    ++ ascii ";T:" ++ digits 1 t.weekday
    ++ ascii ";U:" ++ digits 2 t.hour ++ ascii "." ++ digits 2 t.minute ++ ascii "." ++ digits 2 t.second
    ++ ascii ";" ++ (u ∷ v ∷ x ∷ y ∷ ascii "\u{3}")

-- the only string that could be read as a clock time
unfoldable pub standard_text : ClockTime → List ℕ
standard_text t =
    text_with t (letter t.unsynchronised "#") (letter t.unverified "*")
    (zone_letter t.utc_offset t.summer_time)
    (announced_letter t.dst_change_announced t.leap_second_announced)

-- the clock times that these letters can represent, if they are readings (`is_representable` asks that)
unfoldable pub standard_representable : ClockTime → Bool
standard_representable t =
    eq_ℤ (standard_zone (zone_letter t.utc_offset t.summer_time)) t.utc_offset
    && not (t.dst_change_announced && t.leap_second_announced)
    && not t.alternate_antenna

-- the format: it has no faults beyond its layout's and its clock time's
unfoldable pub standard : Format ClockTime
standard = clock_format standard_layout (λ s. false) standard_fields

-- the reader, by the rule for every time string
unfoldable pub read_standard : List ℕ → Answer ClockTime
read_standard s = read_text standard s

-- the writer, by the rule for every time string
unfoldable pub write_standard : ClockTime → List ℕ → Written
write_standard t buffer = write_text (written_clock standard standard_text) t buffer
