-- A DCF77 minute over memory that C lends.
use Rattle.std.specs.Prelude.{ℕ, List, ℤ}
use Rattle.clock_time.specs.Exit.{Exit}
use Rattle.dcf77.specs.Minute.{read_minute}
use Rattle.c_numbers.specs.Numbers.{minute_numbers, put_answer}

-- the numbers of the minute that was read take the place of the first numbers lent: as the minute's reader, and then 20
-- if there is no room
unfoldable pub read_minute_into : List ℕ → List ℤ → Exit (Unit {0}) (List ℤ)
read_minute_into marks lent = put_answer minute_numbers (read_minute marks) lent
