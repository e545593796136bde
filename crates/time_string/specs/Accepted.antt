-- In words: which bytes tell a kind, and which strings are accepted as which readings.
use Rattle.std.specs.Prelude.{ℕ, ◌≡◌, List, length, get_or}
use Prim.Native.Char.{code}
use Rattle.time_string.specs.declared.Reading.{Reading}
use Rattle.time_string.specs.Row.{Shaped, as_reading, TellingByte, any_byte, letter_d, other_byte, KindRow}
use Rattle.time_string.specs.Row.{kind_row}
use Rattle.time_string.specs.declared.Kind.{Kind}

-- "32 long is standard if place 1 holds `D`, else PZF" (01, Meinberg and ELV strings): the byte at place 1 is one that
-- tells the kind
abbrev pub Telling : TellingByte → List ℕ → Type 0
Telling any_byte s = Unit {0}
Telling letter_d s = get_or s 1 0 ≡ code "D"
Telling other_byte s = get_or s 1 0 ≡ code "D" → ⊥

-- "66 long is GPS; 32 long is standard if place 1 holds `D`, else PZF; 21 long is ELV" (01, Meinberg and ELV strings):
-- the string has the kind's length, and a byte at place 1 that tells the kind
abbrev pub TellsKind : List ℕ → Kind → Type 0
TellsKind s kind = let r = kind_row kind in (length s ≡ r.long) × Telling r.telling s

-- a string of a row's kind is accepted as a reading
abbrev pub AcceptsRow : KindRow → List ℕ → Reading → Type 0
AcceptsRow r s q = (a : Shaped r.shape) × (r.Accepts s a × (q ≡ as_reading r.shape a))

-- the same of a kind
abbrev pub AcceptsAs : Kind → List ℕ → Reading → Type 0
AcceptsAs kind s q = AcceptsRow (kind_row kind) s q
