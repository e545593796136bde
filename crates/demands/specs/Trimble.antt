-- The lines of the table of refusals that the Trimble's entry in C goes by, in words and in their order.
use Rattle.std.specs.Prelude.{ℕ, List, [], ◌∷◌, ◌++◌, ℤ}
use Rattle.clock_time.specs.Order.{Line}
use Rattle.trimble_sv6.specs.Lines.{trimble_lines}
use Rattle.c_numbers.specs.Numbers.{trimble_count}
use Rattle.demands.specs.Lines.{no_room_for}

-- the lines of the Trimble's reader, then the room
abbrev pub read_trimble_lines : List ℕ → List ℤ → List Line
read_trimble_lines s fields = trimble_lines s ++ (no_room_for trimble_count fields ∷ [])
