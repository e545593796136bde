-- The kinds of time strings: one row a kind.
use Rattle.std.specs.Prelude.{ℕ, List, [], ◌∷◌, ◌++◌}
use Rattle.clock_time.specs.Errors.{Answer, accepted, refused}
use Rattle.clock_time.specs.FieldRanges.{Range, time_ranges, gps_ranges}
use Rattle.clock_time.specs.Order.{Line}
use Rattle.clock_time.specs.declared.ClockTime.{ClockTime}
use Rattle.layout.specs.Text.{WrittenFormat, written_clock}
use Rattle.meinberg_standard.specs.Standard.{standard, standard_text}
use Rattle.meinberg_standard.specs.Accepts.{AcceptsStandard}
use Rattle.meinberg_standard.specs.Lines.{standard_lines}
use Rattle.meinberg_pzf.specs.Pzf.{pzf, pzf_text}
use Rattle.meinberg_pzf.specs.Accepts.{AcceptsPzf}
use Rattle.meinberg_pzf.specs.Lines.{pzf_lines}
use Rattle.meinberg_gps.specs.Gps.{written_gps}
use Rattle.meinberg_gps.specs.Accepts.{AcceptsGps}
use Rattle.meinberg_gps.specs.Lines.{gps_lines}
use Rattle.meinberg_gps.specs.declared.GpsTime.{GpsTime}
use Rattle.elv_dcf7000.specs.Elv.{elv, elv_text}
use Rattle.elv_dcf7000.specs.Accepts.{AcceptsElv}
use Rattle.elv_dcf7000.specs.Lines.{elv_lines}
use Rattle.time_string.specs.declared.Reading.{Reading}
use Rattle.time_string.specs.declared.Reading.TheVariants.{Time, TimeAndPosition}
use Rattle.time_string.specs.declared.Kind.{Kind}
use Rattle.time_string.specs.declared.Kind.TheVariants.{Standard, Pzf, Gps, Elv}

-- ---- readings
-- the clock time of a reading, without its position
abbrev pub reading_time : Reading → ClockTime
reading_time (Time t) = t
reading_time (TimeAndPosition g) = g.time

-- whether the readings of a kind have a position
pub data Shape : Type 0 where
  without_position : Shape
  with_position : Shape

-- what a string of this shape is read as
abbrev pub Shaped : Shape → Type 0
Shaped without_position = ClockTime
Shaped with_position = GpsTime

-- the same as a reading
abbrev pub as_reading : (shape : Shape) → Shaped shape → Reading
as_reading without_position t = Time t
as_reading with_position g = TimeAndPosition g

-- a reader's answer, with what it accepted as a `Reading`
abbrev pub shaped_answer : (shape : Shape) → Answer (Shaped shape) → Answer Reading
shaped_answer shape (accepted a) = accepted (as_reading shape a)
shaped_answer shape (refused k) = refused k

-- ---- the row of a kind
-- how a kind is told from others of its length: not at all, since no other kind has its length; by a `D` at place 1; or
-- by any other byte there
pub data TellingByte : Type 0 where
  any_byte : TellingByte
  letter_d : TellingByte
  other_byte : TellingByte

-- "Order for text: 1, 2, 3, 4, 8, 9, 5, 6, 7." (01, Refusal numbers): `own` stands for 8 and 9, both for GPS, none for
-- the other kinds
abbrev pub text_order : List ℕ → List ℕ
text_order own = 1 ∷ 2 ∷ 3 ∷ 4 ∷ own ++ (5 ∷ 6 ∷ 7 ∷ [])

-- what is said of a kind of string
pub record KindRow : Type 1 where
  -- its number in C, in the order of document 01's strings
  pub number : ℕ
  -- "A separate question tells the kind from the bytes" (01, Meinberg and ELV strings): its length, and the byte at
  -- place 1
  pub long : ℕ
  pub telling : TellingByte
  -- whether its readings have a position; its checks in their order, its fields, and its text
  pub shape : Shape
  pub format : WrittenFormat (Shaped shape)
  -- in words: the string is accepted as this value
  pub Accepts : List ℕ → Shaped shape → Type 0
  -- the lines of 01's table of refusals for a string of this kind, in words and in their order
  pub lines : List ℕ → List Line
  -- 8: "offset sign or size"; 9: "position" (01, Refusal numbers): its own numbers, and only GPS strings have either
  pub own : List ℕ
  -- how many numbers C has for a reading of this kind, and what each may be
  pub ranges : List Range

-- "66 long is GPS; 32 long is standard if place 1 holds `D`, else PZF; 21 long is ELV" (01, Meinberg and ELV strings)
abbrev pub kind_row : Kind → KindRow
kind_row Standard =
    record {
      number = 0;
      long = 32;
      telling = letter_d;
      shape = without_position;
      format = written_clock standard standard_text;
      Accepts = AcceptsStandard;
      lines = standard_lines;
      own = [];
      ranges = time_ranges;
    }
kind_row Pzf =
    record {
      number = 1;
      long = 32;
      telling = other_byte;
      shape = without_position;
      format = written_clock pzf pzf_text;
      Accepts = AcceptsPzf;
      lines = pzf_lines;
      own = [];
      ranges = time_ranges;
    }
kind_row Gps =
    record {
      number = 2;
      long = 66;
      telling = any_byte;
      shape = with_position;
      format = written_gps;
      Accepts = AcceptsGps;
      lines = gps_lines;
      own = 8 ∷ 9 ∷ [];
      ranges = gps_ranges;
    }
kind_row Elv =
    record {
      number = 3;
      long = 21;
      telling = any_byte;
      shape = without_position;
      format = written_clock elv elv_text;
      Accepts = AcceptsElv;
      lines = elv_lines;
      own = [];
      ranges = time_ranges;
    }

-- the kinds in the order of their numbers
abbrev pub all_kinds : List Kind
all_kinds = Standard ∷ Pzf ∷ Gps ∷ Elv ∷ []
