-- Writing strings by kind numbers, and minutes, from the numbers of a reading.
use Rattle.std.specs.Prelude.{ℕ, cond, List, eqb, ℤ}
use Rattle.clock_time.specs.Called.{leaving}
use Rattle.clock_time.specs.Errors.{Answer}
use Rattle.clock_time.specs.Writing.{Written}
use Rattle.clock_time.specs.declared.ClockTime.{ClockTime}
use Rattle.meinberg_standard.specs.Standard.{write_standard}
use Rattle.meinberg_pzf.specs.Pzf.{write_pzf}
use Rattle.elv_dcf7000.specs.Elv.{write_elv}
use Rattle.dcf77.specs.Minute.{write_minute}
use Rattle.layout.specs.Text.{write_text}
use Rattle.time_string.specs.Row.{Shape, without_position, with_position, Shaped, KindRow, kind_row}
use Rattle.time_string.specs.Kind.{kind_number, kind_named}
use Rattle.time_string.specs.declared.Kind.{Kind}
use Rattle.time_string.specs.declared.Kind.TheVariants.{Standard, Pzf}
use Rattle.c_fields.specs.Ranges.{time_from, gps_from, numbered_in, time_of, minute_of}

-- what the numbers of a reading stand for, by whether it has a position
abbrev pub shaped_from : (shape : Shape) → List ℤ → Shaped shape
shaped_from without_position z = time_from z
shaped_from with_position z = gps_from z

-- the same if there is one number for each range of the row, and it is in it; else 23
abbrev pub value_of : (r : KindRow) → List ℤ → Answer (Shaped r.shape)
value_of r z = numbered_in r.ranges (shaped_from r.shape) z

-- "For a writer: 23, 20" (01, Refusal numbers): 23 if the numbers are no reading's, else what the writer of the row's
-- format leaves
abbrev pub write_row : KindRow → List ℤ → List ℕ → Written
write_row r z buffer = leaving buffer (value_of r z) (λ a. write_text r.format a buffer)

-- the same of a kind
unfoldable pub write_as : Kind → List ℤ → List ℕ → Written
write_as kind z buffer = write_row (kind_row kind) z buffer

-- the same for the kind that a number names; "an unknown kind number from C gives 1" (01, Meinberg and ELV strings)
unfoldable pub write_from : ℕ → List ℤ → List ℕ → Written
write_from n z buffer = leaving buffer (kind_named n) (λ kind. write_as kind z buffer)

-- the same of a minute
unfoldable pub write_minute_from : List ℤ → List ℕ → Written
write_minute_from z buffer = leaving buffer (minute_of z) (λ a. write_minute a buffer)

-- ---- what is written of a clock time with no position
-- a clock time as a standard string if n is that kind's number, as a PZF string if it is that one's, and as an ELV
-- string for any other number; it is asked of these three kinds' numbers only
unfoldable pub write_time : ℕ → ClockTime → List ℕ → Written
write_time n t buffer =
    cond (eqb n (kind_number Standard)) (write_standard t buffer)
    (cond (eqb n (kind_number Pzf)) (write_pzf t buffer) (write_elv t buffer))

-- the same from the numbers of a clock time
unfoldable pub write_time_from : ℕ → List ℤ → List ℕ → Written
write_time_from n z buffer = leaving buffer (time_of z) (λ t. write_time n t buffer)
