-- The Trimble string over memory that C lends.
use Rattle.std.specs.Prelude.{ℕ, List, ℤ}
use Rattle.clock_time.specs.Exit.{Exit}
use Rattle.trimble_sv6.specs.Trimble.{read_trimble}
use Rattle.c_numbers.specs.Numbers.{trimble_numbers, put_answer}

-- the numbers of the clock time and the milliseconds that were read take the place of the first numbers lent: as the
-- string's reader, and then 20 if there is no room
unfoldable pub read_trimble_into : List ℕ → List ℤ → Exit (Unit {0}) (List ℤ)
read_trimble_into s lent = put_answer trimble_numbers (read_trimble s) lent
