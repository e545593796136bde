-- Which strings and runs of marks are accepted, by the numbers that C has.
use Rattle.std.specs.Prelude.{ℕ, ◌≡◌, List, ℤ}
use Rattle.dcf77.specs.Accepts.{AcceptsMinute}
use Rattle.dcf77.specs.declared.MinuteTime.{MinuteTime}
use Rattle.time_string.specs.declared.Reading.{Reading}
use Rattle.time_string.specs.Kind.{kind_number}
use Rattle.time_string.specs.Accepted.{AcceptsAs}
use Rattle.time_string.specs.declared.Kind.{Kind}
use Rattle.c_numbers.specs.Numbers.{minute_numbers}
use Rattle.c_readings.specs.Strings.{reading_numbers}

-- a string is accepted as a reading, as one of the kind that the number n names
abbrev pub AcceptsNumbered : ℕ → List ℕ → Reading → Type 0
AcceptsNumbered n s r = (kind : Kind) × ((n ≡ kind_number kind) × AcceptsAs kind s r)

-- a string of a kind is accepted as the reading that has these numbers and no more
abbrev pub AcceptsNumbers : ℕ → List ℕ → List ℤ → Type 0
AcceptsNumbers n s z = (r : Reading) × (AcceptsNumbered n s r × (z ≡ reading_numbers r))

-- a run of marks is accepted as the minute that has these numbers and no more
abbrev pub AcceptsMinuteNumbers : List ℕ → List ℤ → Type 0
AcceptsMinuteNumbers m z = (a : MinuteTime) × (AcceptsMinute m a × (z ≡ minute_numbers a))
