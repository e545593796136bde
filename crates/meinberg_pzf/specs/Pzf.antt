-- The Meinberg PZF string, 32 bytes.
use Rattle.std.specs.Prelude.{ℕ, Bool, false, cond, List, ◌∷◌, ◌++◌, ℤ, pos}
use Rattle.clock_time.specs.Zone.{cet_offset}
use Rattle.clock_time.specs.Errors.{Answer}
use Rattle.clock_time.specs.Same.{eq_ℤ}
use Rattle.clock_time.specs.Writing.{Written}
use Rattle.clock_time.specs.declared.ClockTime.{ClockTime}
use Rattle.clock_time.specs.Lists.{ascii}
use Rattle.decimal.specs.Decimal.{digits}
use Rattle.layout.specs.Layout.{digit, flag, places, has}
use Rattle.layout.specs.Meinberg.{clock_with_flags}
use Rattle.layout.specs.Text.{Format, clock_format, written_clock, read_text, write_text, letter}

-- "`STX dd.mm.yy; w; hh:mm:ss; tuvxyza ETX`. Flags at 24..30: t `U`, u `#`, v `*`, x `S`, y `!`, z `A`, a `R`, or
-- blank." (01, Meinberg and ELV strings)
unfoldable pub pzf_layout : List ℕ
pzf_layout =
    ascii "\u{2}" ++ places 2 digit ++ ascii "." ++ places 2 digit ++ ascii "." ++ places 2 digit
    ++ ascii "; " ++ places 1 digit
    ++ ascii "; " ++ places 2 digit ++ ascii ":" ++ places 2 digit ++ ascii ":" ++ places 2 digit
    ++ ascii "; " ++ (flag "U" ∷ flag "#" ∷ flag "*" ∷ flag "S" ∷ flag "!" ∷ flag "A" ∷ flag "R" ∷ ascii "\u{3}")

-- "t `U` gives offset 0 whatever x is; otherwise x `S` gives 120 and blank 60." (01, Meinberg and ELV strings)
unfoldable pub pzf_offset : Bool → Bool → ℤ
pzf_offset utc summer = cond utc (pos 0) (cet_offset summer)

-- "Flags at 24..30: t `U`, u `#`, v `*`, x `S`, y `!`, z `A`, a `R`, or blank. [..] x is the summer flag in each case."
-- (01, Meinberg and ELV strings): in turn UTC, unsynchronised, unverified, summer time, change coming, leap second
-- coming and alternate antenna; the date starts at place 1, the weekday stands at 11, the time starts at 14, u at 25
unfoldable pub pzf_fields : List ℕ → ClockTime
pzf_fields s = clock_with_flags s 1 11 14 25 (pzf_offset (has "U" 24 s) (has "S" 27 s))

-- the layout with the fields of a clock time and seven letters in it
abbrev pub text_with : ClockTime → ℕ → ℕ → ℕ → ℕ → ℕ → ℕ → ℕ → List ℕ
text_with t utc u v x y z a =
    ascii "\u{2}" ++ digits 2 t.day ++ ascii "." ++ digits 2 t.month ++ ascii "." ++ digits 2 t.year
    ++ ascii "; " ++ digits 1 t.weekday
    ++ ascii "; " ++ digits 2 t.hour ++ ascii ":" ++ digits 2 t.minute ++ ascii ":" ++ digits 2 t.second
    ++ ascii "; " ++ (utc ∷ u ∷ v ∷ x ∷ y ∷ z ∷ a ∷ ascii "\u{3}")

-- the only string that could be read as a clock time: the offset decides the letter t of the layout, and x is
-- the summer flag
unfoldable pub pzf_text : ClockTime → List ℕ
pzf_text t =
    text_with t (letter (eq_ℤ t.utc_offset (pos 0)) "U")
    (letter t.unsynchronised "#") (letter t.unverified "*")
    (letter t.summer_time "S") (letter t.dst_change_announced "!")
    (letter t.leap_second_announced "A") (letter t.alternate_antenna "R")

-- the clock times that these flags can represent, if they are readings (`is_representable` asks that)
unfoldable pub pzf_representable : ClockTime → Bool
pzf_representable t = eq_ℤ (pzf_offset (eq_ℤ t.utc_offset (pos 0)) t.summer_time) t.utc_offset

-- the format: it has no faults beyond its layout's and its clock time's
unfoldable pub pzf : Format ClockTime
pzf = clock_format pzf_layout (λ s. false) pzf_fields

-- the reader, by the rule for every time string
unfoldable pub read_pzf : List ℕ → Answer ClockTime
read_pzf s = read_text pzf s

-- the writer, by the rule for every time string
unfoldable pub write_pzf : ClockTime → List ℕ → Written
write_pzf t buffer = write_text (written_clock pzf pzf_text) t buffer
