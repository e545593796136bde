-- What every writer asks of a clock time, before its format's own test of zone and flags.
use Rattle.std.specs.Prelude.{Bool}
use Rattle.clock_time.specs.declared.ClockTime.{ClockTime}
use Rattle.calendar.specs.UnixTime.{is_reading}

-- not 23: "reading that no accepted string or minute of this format gives" (01, Refusal numbers): no format gives
-- what is no reading; a reading may still be 23 by its format
unfoldable pub is_representable : ClockTime → Bool
is_representable t = is_reading t
