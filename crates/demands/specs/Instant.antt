-- The instant of a reading, in words.
use Rattle.std.specs.Prelude.{ℕ, ◌+◌, ◌*◌, ◌≡◌, List, take, ℤ, pos, ◌-ℤ◌, ◌*ℤ◌}
use Rattle.clock_time.specs.declared.ClockTime.{ClockTime}
use Rattle.calendar.specs.Rules.{ValidReading}
use Rattle.calendar.specs.Days.{DayAfter}
use Rattle.dcf77.specs.Accepts.{AcceptsMinute}
use Rattle.dcf77.specs.declared.MinuteTime.{MinuteTime}
use Rattle.dcf77_outcome.specs.RunNumber.{MinuteNumber}
use Rattle.c_numbers.specs.Numbers.{time_numbers, time_count}

-- "The instant is 86,400 × days since 1 January 1970 + 3,600 × hour + 60 × minute + second − 60 × offset. It may be
-- below zero: [..]. Second 60 has the instant of the second after it." (01, The reading)
abbrev pub Instant : ClockTime → ℤ → Type 0
Instant t z =
    (days : ℕ) × (
    DayAfter days t.year t.month t.day
    × (z ≡ pos (86400 * days + (3600 * t.hour + 60 * t.minute + t.second)) -ℤ pos 60 *ℤ t.utc_offset)
    )

-- "Refused with 23 where the fields are no valid reading" (01, The reading): z is the instant of a valid one
abbrev pub InstantOf : ClockTime → ℤ → Type 0
InstantOf t z = ValidReading t × Instant t z

-- the same of the first 14 of some numbers; numbers that are no reading's, such as a flag of 2, have no instant
abbrev pub InstantOfNumbers : List ℤ → ℤ → Type 0
InstantOfNumbers numbers z = (t : ClockTime) × ((take time_count numbers ≡ time_numbers t) × InstantOf t z)

-- "100 + 32 L + 16 (run of 60) + 8 (offset 120) + [..]" (01, Tape and sheet): n is the number of an accepted minute
-- whose instant is z
abbrev pub OutcomeInstant : ℕ → ℤ → Type 0
OutcomeInstant n z =
    (m : List ℕ) × ((a : MinuteTime) × (AcceptsMinute m a × MinuteNumber a n × InstantOf a.time z))
