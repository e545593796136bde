-- Laws of strings by kind numbers.
use mathlib.Core.Path.{◌≡◌, refl}
use mathlib.Core.List.{List}
use lib.IntN.{ℤ}
use Rattle.clock_time.specs.Errors.{Answer, accepted, refused}
use Rattle.time_string.specs.Row.{Shape, without_position, with_position, Shaped, shaped_answer}
use Rattle.c_numbers.specs.Numbers.{time_numbers, gps_numbers, put_answer}
use Rattle.c_readings.specs.Strings.{reading_numbers}

-- the numbers of what a string of this shape is read as
abbrev pub shaped_numbers : (shape : Shape) → Shaped shape → List ℤ
shaped_numbers without_position t = time_numbers t
shaped_numbers with_position g = gps_numbers g

-- what is put of a clock time, or of one with a position, is what is put of the reading
pub shaped_put : (lent : List ℤ) (shape : Shape) (a : Answer (Shaped shape))
    → put_answer (shaped_numbers shape) a lent ≡ put_answer reading_numbers (shaped_answer shape a) lent
unfolding put_answer
shaped_put lent without_position (accepted t) = refl
shaped_put lent with_position (accepted g) = refl
shaped_put lent shape (refused n) = refl
