-- The main results of the GPS string.
use Prim.Native.Nat.{ℕ}
use mathlib.Core.Path.{◌≡◌, refl}
use mathlib.Core.Logic.{◌↔◌}
use mathlib.Core.Bool.{true, ◌&&◌}
use mathlib.Core.List.{List}
use lib.ListN.{length}
use Rattle.clock_time.specs.Errors.{accepted, refused}
use Rattle.clock_time.specs.FieldRanges.{FitsPosition}
use Rattle.clock_time.specs.Order.{Gives}
use Rattle.clock_time.specs.Faithful.{Faithful}
use Rattle.calendar.specs.UnixTime.{is_reading}
use Rattle.calendar.specs.Representable.{is_representable}
use Rattle.calendar.specs.Rules.{ReadingRules}
use Rattle.layout.specs.Picture.{AsDrawn}
use Rattle.layout.proofs.DecideLaws.{valid_answer, read_written}
use Rattle.layout.proofs.Theorems as text
use Rattle.meinberg_gps_position.specs.Position.{position_representable}
use Rattle.meinberg_gps.specs.Gps.{gps_text, gps, read_gps, write_gps, written_gps}
use Rattle.meinberg_gps.specs.Accepts.{AcceptsGps}
use Rattle.meinberg_gps.specs.Says.{gps_picture, RulesGps, SaysGps}
use Rattle.meinberg_gps.specs.Lines.{gps_lines}
use Rattle.meinberg_gps.specs.declared.GpsTime.{GpsTime}
use Rattle.meinberg_gps.proofs.FieldsLaws.{text_fields, same_gps_refl, same_gps_true}
use Rattle.meinberg_gps.proofs.FitsLaws as fits
use Rattle.meinberg_gps.proofs.SaysLaws.{in_words}
use Rattle.meinberg_gps.proofs.GpsLaws.{gps_representable, decides}

-- demand 2: acceptance, the fields read, and what is written
pub faithful : Faithful AcceptsGps read_gps write_gps
unfolding read_gps write_gps written_gps gps
faithful = text.faithful written_gps AcceptsGps (text.exactly in_words) text_fields same_gps_refl same_gps_true

-- its first sentence by itself
pub read_gps_exactly : (s : List ℕ) (g : GpsTime)
    → (read_gps s ≡ accepted g) ↔ (AsDrawn gps_picture s × SaysGps s g × RulesGps s × ReadingRules g.time)
read_gps_exactly = faithful.reader.accepted_exactly

-- and refused with a number exactly if its line of the table in words holds and no earlier one does: "Each number is
-- given when its line holds and no earlier one does, and never otherwise." (01, Refusal numbers)
pub refused_gps_exactly : (s : List ℕ) (n : ℕ) → (read_gps s ≡ refused n) ↔ Gives (gps_lines s) n
unfolding read_gps gps
refused_gps_exactly = text.refused_exactly in_words

-- a string that is as drawn and keeps the rules of its own says one clock time and position and no other
pub says_one : (s : List ℕ) → AsDrawn gps_picture s → RulesGps s
    → (g : GpsTime) × (SaysGps s g × ((h : GpsTime) → SaysGps s h → h ≡ g))
says_one = text.says_one in_words

-- "GPS, 66 bytes." (01, Meinberg and ELV strings)
pub long : length gps_picture ≡ 66
long = refl

-- what is read is a valid reading
pub valid_read : (s : List ℕ) (g : GpsTime) → read_gps s ≡ accepted g → is_reading g.time ≡ true
unfolding read_gps written_gps gps
valid_read = valid_answer written_gps gps_representable decides

-- and the numbers of its position fit their fields
pub position_fits : (s : List ℕ) (g : GpsTime) → read_gps s ≡ accepted g → FitsPosition g.position
position_fits = fits.position_fits

-- read exactly what is written: as g, the text of g and no other string, if g is a valid reading at a position that it
-- can represent
pub read_is_written : (s : List ℕ) (g : GpsTime) → (read_gps s ≡ accepted g)
    ↔ (((is_representable g.time && position_representable g.position) ≡ true) × (gps_text g ≡ s))
unfolding read_gps written_gps gps
read_is_written = read_written written_gps gps_representable decides text_fields
