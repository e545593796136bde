-- The numbers that each field of a reading may hold.
use Rattle.std.specs.Prelude.{ℕ, ◌≤◌, ◌≡◌, Bool, true, ◌&&◌, List, [], ◌∷◌, ◌++◌, ℤ, pos, negsuc}
use Rattle.std.specs.Int.Signed.{le_z}
use Rattle.clock_time.specs.declared.ClockTime.{ClockTime}
use Rattle.clock_time.specs.declared.Position.{Position}

-- from `least` up to `most`
pub record Range : Type 0 where
  pub least : ℤ
  pub most : ℤ

-- the range from one number to another
abbrev pub range : ℤ → ℤ → Range
range least most = record { least = least; most = most }

-- a number is in a range
abbrev pub within : Range → ℤ → Bool
within r z = le_z r.least z && le_z z r.most

-- from 0: the range of an unsigned field, and of a flag
abbrev pub up_to : ℕ → Range
up_to most = range (pos 0) (pos most)

-- the range of 16 bits with a sign
abbrev pub i16_range : Range
i16_range = range (negsuc 32767) (pos 32767)

-- the range of 32 bits with a sign
abbrev pub i32_range : Range
i32_range = range (negsuc 2147483647) (pos 2147483647)

-- ---- readings
-- the fields of a clock time, as `ClockTime` has them
unfoldable pub time_ranges : List Range
time_ranges =
    -- year, month, day, weekday, hour, minute, second
    up_to 65535 ∷ up_to 255 ∷ up_to 255 ∷ up_to 255 ∷ up_to 255 ∷ up_to 255 ∷ up_to 255
    -- the offset
    ∷ i16_range
    -- six flags
    ∷ up_to 1 ∷ up_to 1 ∷ up_to 1 ∷ up_to 1 ∷ up_to 1 ∷ up_to 1
    ∷ []

-- those of a clock time, and after them latitude, longitude and height, as `Position` has them
unfoldable pub gps_ranges : List Range
gps_ranges = time_ranges ++ (i32_range ∷ i32_range ∷ up_to 65535 ∷ [])

-- the numbers of a clock time are in the ranges of its fields. Every clock time that a function takes or returns has
-- such numbers.
pub record FitsClockTime (t : ClockTime) : Type 0 where
  pub year : t.year ≤ 65535
  pub month : t.month ≤ 255
  pub day : t.day ≤ 255
  pub weekday : t.weekday ≤ 255
  pub hour : t.hour ≤ 255
  pub minute : t.minute ≤ 255
  pub second : t.second ≤ 255
  pub offset : within i16_range t.utc_offset ≡ true

-- the same of a position
pub record FitsPosition (p : Position) : Type 0 where
  pub latitude : within i32_range p.latitude ≡ true
  pub longitude : within i32_range p.longitude ≡ true
  pub height : p.height ≤ 65535
