-- What is known of a clock time that formats can represent, and which they can.
use Prim.Native.Nat.{◌≤◌}
use mathlib.Core.Path.{◌≡◌}
use mathlib.Core.Bool.{true}
use borrow.Author.Tests.{le-leb}
use Rattle.clock_time.specs.declared.ClockTime.{ClockTime}
use Rattle.gregorian.specs.Date.{supported_date, first_year, last_year}
use Rattle.calendar.specs.TimeOfDay.{time_exists}
use Rattle.calendar.specs.UnixTime.{offset_in_range, is_reading}
use Rattle.calendar.specs.Representable.{is_representable}
use Rattle.calendar.proofs.ValidLaws.{Valid, valid}

pub representable_reading : (t : ClockTime) → is_representable t ≡ true → is_reading t ≡ true
unfolding is_representable
representable_reading t h = h

pub represented : (t : ClockTime) → is_representable t ≡ true → Valid t
represented t h = valid t (representable_reading t h)

-- a clock time that passes the checks of date, time and weekday is representable if its offset is in range
pub checked_representable : (t : ClockTime) → supported_date first_year last_year t.year t.month t.day ≡ true
    → time_exists t.hour t.minute t.second t.utc_offset ≡ true → 1 ≤ t.weekday → t.weekday ≤ 7
    → offset_in_range t.utc_offset ≡ true → is_representable t ≡ true
unfolding is_representable is_reading
checked_representable t date time weekday_least weekday_most offset =
    simp (date, time, le-leb _ _ weekday_least, le-leb _ _ weekday_most, offset)
