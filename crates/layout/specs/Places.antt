-- The places of the code as those of a layout.
use Rattle.std.specs.Prelude.{ℕ, ◌+◌, ◌*◌}
use Rattle.layout.specs.declared.place.Place.{Place}
use Rattle.layout.specs.declared.place.Place.TheVariants.{Fixed, Digit, Any, Printable, Flag, Either}
use Rattle.layout.specs.Layout.{digit, free, printable, flag_of}

-- the number that a layout has for a place
abbrev pub place_number : Place → ℕ
place_number (Fixed b) = b
place_number Digit = digit
place_number Any = free
place_number Printable = printable
place_number (Flag a) = flag_of a
place_number (Either a b) = 65536 + 256 * a + b
