-- The main results of the standard string.
use Prim.Native.Nat.{ℕ}
use mathlib.Core.Path.{◌≡◌, refl}
use mathlib.Core.Logic.{◌↔◌}
use mathlib.Core.Bool.{true, ◌&&◌}
use mathlib.Core.List.{List}
use lib.ListN.{length}
use Rattle.clock_time.specs.Errors.{accepted, refused}
use Rattle.clock_time.specs.Order.{Gives}
use Rattle.clock_time.specs.Faithful.{Faithful}
use Rattle.clock_time.specs.declared.ClockTime.{ClockTime}
use Rattle.clock_time.proofs.SameLaws.{same_time_refl, same_time_true}
use Rattle.calendar.specs.UnixTime.{is_reading}
use Rattle.calendar.specs.Representable.{is_representable}
use Rattle.calendar.specs.Rules.{ReadingRules}
use Rattle.layout.specs.Text.{written_clock}
use Rattle.layout.specs.Picture.{AsDrawn}
use Rattle.layout.proofs.DecideLaws.{clock_valid, clock_written_lem}
use Rattle.layout.proofs.Theorems as text
use Rattle.meinberg_standard.specs.Standard.{standard_text, standard_representable, standard, read_standard}
use Rattle.meinberg_standard.specs.Standard.{write_standard}
use Rattle.meinberg_standard.specs.Accepts.{AcceptsStandard}
use Rattle.meinberg_standard.specs.Says.{standard_picture, SaysStandard}
use Rattle.meinberg_standard.specs.Lines.{standard_lines}
use Rattle.meinberg_standard.proofs.StandardLaws.{text_fields, decides}
use Rattle.meinberg_standard.proofs.SaysLaws.{in_words}

-- demand 2: acceptance, the fields read, and what is written
pub faithful : Faithful AcceptsStandard read_standard write_standard
unfolding read_standard write_standard standard
faithful =
    text.faithful (written_clock standard standard_text) AcceptsStandard (text.exactly_letters in_words)
    (λ s r. text_fields s r.clock.fits)
    same_time_refl same_time_true

-- its first sentence by itself
pub read_standard_exactly : (s : List ℕ) (t : ClockTime)
    → (read_standard s ≡ accepted t) ↔ (AsDrawn standard_picture s × SaysStandard s t × ReadingRules t)
read_standard_exactly = faithful.reader.accepted_exactly

-- "Standard, 32 bytes." (01, Meinberg and ELV strings)
pub long : length standard_picture ≡ 32
long = refl

-- and refused with a number exactly if its line of the table in words holds and no earlier one does: "Each number is
-- given when its line holds and no earlier one does, and never otherwise." (01, Refusal numbers)
pub refused_standard_exactly : (s : List ℕ) (n : ℕ)
    → (read_standard s ≡ refused n) ↔ Gives (standard_lines s) n
unfolding read_standard standard
refused_standard_exactly = text.refused_exactly in_words

-- a string that is as drawn says one clock time and no other
pub says_one : (s : List ℕ) → AsDrawn standard_picture s
    → (t : ClockTime) × (SaysStandard s t × ((u : ClockTime) → SaysStandard s u → u ≡ t))
says_one s d = text.says_one in_words s d tt

-- what is read is a valid reading
pub valid_read : (s : List ℕ) (t : ClockTime) → read_standard s ≡ accepted t → is_reading t ≡ true
unfolding read_standard standard
valid_read = clock_valid decides

-- read exactly what is written: as t, the text of t and no other string, if t is a valid reading that it can represent
pub read_is_written : (s : List ℕ) (t : ClockTime)
    → (read_standard s ≡ accepted t) ↔ (((is_representable t && standard_representable t) ≡ true) × (standard_text t ≡ s))
unfolding read_standard standard
read_is_written = clock_written_lem decides (λ s p. text_fields s p.clock.fits)
