-- The main results of the ELV string.
use Prim.Native.Nat.{ℕ, ◌≤◌}
use mathlib.Core.Path.{◌≡◌, refl}
use mathlib.Core.Logic.{◌↔◌}
use mathlib.Core.Bool.{true, ◌&&◌}
use mathlib.Core.List.{List}
use lib.ListN.{length}
use Rattle.clock_time.specs.Errors.{accepted, refused}
use Rattle.clock_time.specs.Order.{Gives}
use Rattle.clock_time.specs.Faithful.{Faithful}
use Rattle.clock_time.specs.declared.ClockTime.{ClockTime}
use Rattle.clock_time.proofs.SameLaws.{same_time_refl, same_time_true}
use Rattle.calendar.specs.Date.{weekday_of}
use Rattle.calendar.proofs.Theorems.{weekday_of_exactly}
use Rattle.calendar.specs.UnixTime.{is_reading}
use Rattle.calendar.specs.Representable.{is_representable}
use Rattle.calendar.specs.Rules.{ReadingRules}
use Rattle.calendar.proofs.ValidLaws.{valid}
use Rattle.layout.specs.Text.{written_clock}
use Rattle.layout.specs.Picture.{AsDrawn}
use Rattle.layout.specs.Says.{two_digits_at}
use Rattle.layout.proofs.DecideLaws.{clock_valid, clock_written_lem}
use Rattle.layout.proofs.Theorems as text
use Rattle.elv_dcf7000.specs.Elv.{elv_text, elv_representable, elv, read_elv, write_elv}
use Rattle.elv_dcf7000.specs.Accepts.{AcceptsElv}
use Rattle.elv_dcf7000.specs.Says.{elv_picture, SaysElv}
use Rattle.elv_dcf7000.specs.Lines.{elv_lines}
use Rattle.elv_dcf7000.proofs.SaysLaws.{in_words}
use Rattle.elv_dcf7000.proofs.ElvLaws.{text_fields, decides}

-- demand 2: acceptance, the fields read, and what is written
pub faithful : Faithful AcceptsElv read_elv write_elv
unfolding read_elv write_elv elv
faithful =
    text.faithful (written_clock elv elv_text) AcceptsElv (text.exactly in_words) text_fields same_time_refl same_time_true

-- its first sentence by itself, with "FF is 00..07" (01, Meinberg and ELV strings)
pub read_elv_exactly : (s : List ℕ) (t : ClockTime) → (read_elv s ≡ accepted t)
    ↔ (AsDrawn elv_picture s × SaysElv s t × (two_digits_at s 18 ≤ 7) × ReadingRules t)
read_elv_exactly = faithful.reader.accepted_exactly

-- "ELV, 21 bytes." (01, Meinberg and ELV strings)
pub long : length elv_picture ≡ 21
long = refl

-- and refused with a number exactly if its line of the table in words holds and no earlier one does: "Each number is
-- given when its line holds and no earlier one does, and never otherwise." (01, Refusal numbers)
pub refused_elv_exactly : (s : List ℕ) (n : ℕ) → (read_elv s ≡ refused n) ↔ Gives (elv_lines s) n
unfolding read_elv elv
refused_elv_exactly = text.refused_exactly in_words

-- a string that is as drawn, with FF from 00 to 07, says one clock time and no other
pub says_one : (s : List ℕ) → AsDrawn elv_picture s → two_digits_at s 18 ≤ 7
    → (t : ClockTime) × (SaysElv s t × ((u : ClockTime) → SaysElv s u → u ≡ t))
says_one = text.says_one in_words

-- what is read is a valid reading
pub valid_read : (s : List ℕ) (t : ClockTime) → read_elv s ≡ accepted t → is_reading t ≡ true
unfolding read_elv elv
valid_read = clock_valid decides

-- the weekday that is read is the one that `weekday_of` answers of the date
pub weekday_read : (s : List ℕ) (t : ClockTime) → read_elv s ≡ accepted t
    → weekday_of t.year t.month t.day ≡ accepted t.weekday
weekday_read s t h =
    let r = (read_elv_exactly s t).0 h in
    (weekday_of_exactly _ _ _ _).1 (r.1.weekday r.3.date, (valid t (valid_read s t h)).date.year_most)

-- read exactly what is written: as t, the text of t and no other string, if t is a valid reading that it can represent
pub read_is_written : (s : List ℕ) (t : ClockTime)
    → (read_elv s ≡ accepted t) ↔ (((is_representable t && elv_representable t) ≡ true) × (elv_text t ≡ s))
unfolding read_elv elv
read_is_written = clock_written_lem decides text_fields
