-- The checks behind the lines of readers: what their definitions go by.
use Prim.Native.Nat.{ℕ}
use mathlib.Core.Bool.{Bool, true, false}
use mathlib.Core.List.{List, [], ◌∷◌, ◌++◌}
use lib.Dec.{leb, ltb}
use lib.ListN.{length}
use lib.IntN.{ℤ}
use Rattle.c_numbers.specs.Numbers.{minute_count}
use Rattle.clock_time.specs.Errors.{Answer, accepted, refused, Check, given}
use Rattle.dcf77.specs.Minute.{minute_checks}
use Rattle.layout.specs.Text.{text_checks}
use Rattle.time_string.specs.declared.Reading.{Reading}
use Rattle.time_string.specs.Row.{as_reading, kind_row, all_kinds}
use Rattle.time_string.specs.Kind.{kind_of}
use Rattle.time_string.specs.declared.Kind.{Kind}
use Rattle.demands.specs.Lines.{number_count}

abbrev pub checks_as : Kind → List ℕ → List Check
checks_as kind s = text_checks (kind_row kind).format.format s

-- what is handed on if they pass
abbrev pub reading_as : Kind → List ℕ → Reading
reading_as kind s = let r = kind_row kind in as_reading r.shape (r.format.format.fields s)

-- no kind was told
abbrev pub is_untold : Answer Kind → Bool
is_untold (accepted kind) = false
is_untold (refused n) = true

abbrev pub kind_checks : List ℕ → List Check
kind_checks s = given 1 (is_untold (kind_of s)) ∷ []

abbrev pub kind_check : ℕ → Check
kind_check n = given 1 (leb (length all_kinds) n)

abbrev pub room_check : ℕ → List ℤ → Check
room_check count fields = given 20 (ltb (length fields) count)

abbrev pub read_checks : Kind → List ℕ → List ℤ → List Check
read_checks kind s fields = checks_as kind s ++ (room_check (number_count kind) fields ∷ [])

abbrev pub read_minute_checks : List ℕ → List ℤ → List Check
read_minute_checks m fields = minute_checks m ++ (room_check minute_count fields ∷ [])
