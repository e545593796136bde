-- Time strings by kind numbers, over memory that C lends, and the instant of numbers.
use Rattle.std.specs.Prelude.{ℕ, List, ℤ}
use Rattle.clock_time.specs.Errors.{Answer, accepted}
use Rattle.clock_time.specs.Exit.{Exit}
use Rattle.calendar.specs.UnixTime.{unix_time}
use Rattle.time_string.specs.declared.Reading.{Reading}
use Rattle.time_string.specs.declared.Reading.TheVariants.{Time, TimeAndPosition}
use Rattle.time_string.specs.Kind.{kind_of, kind_number, kind_named, read_as}
use Rattle.clock_time.specs.Called.{and_then}
use Rattle.c_numbers.specs.Numbers.{time_numbers, gps_numbers, put_answer}
use Rattle.c_fields.specs.Ranges.{first_time_of}

-- "A separate question tells the kind from the bytes" (01, Meinberg and ELV strings)
unfoldable pub kind_number_of : List ℕ → Answer ℕ
kind_number_of s = and_then (kind_of s) (λ k. accepted (kind_number k))

-- ---- reading
-- the numbers of a reading, 14 or with a position 17
abbrev pub reading_numbers : Reading → List ℤ
reading_numbers (Time t) = time_numbers t
reading_numbers (TimeAndPosition g) = gps_numbers g

-- "The caller names the kind; an unknown kind number from C gives 1." (01, Meinberg and ELV strings)
unfoldable pub read_numbered : ℕ → List ℕ → Answer Reading
read_numbered n s = and_then (kind_named n) (λ kind. read_as kind s)

-- "a data collector written in C calls them on numbers and byte slices" (01, Which form belongs where): as the kind's
-- reader, and then 20 if there is no room
unfoldable pub read_into : ℕ → List ℕ → List ℤ → Exit (Unit {0}) (List ℤ)
read_into n s lent = put_answer reading_numbers (read_numbered n s) lent

-- ---- the instant
-- "Refused with 23 where the fields are no valid reading" (01, The reading): the first 14 numbers count
unfoldable pub unix_time_of : List ℤ → Answer ℤ
unix_time_of z = and_then (first_time_of z) unix_time
