-- Which minutes have a run that is read as them, and marks as a number.
use Rattle.std.specs.Prelude.{ℕ, ◌<◌, ◌^◌, ◌≡◌, Bool, not, ◌&&◌, List, ltb, eqb}
use Rattle.clock_time.specs.Zone.{cet_offset}
use Rattle.clock_time.specs.Same.{eq_ℤ}
use Rattle.calendar.specs.Representable.{is_representable}
use Rattle.dcf77.specs.Marks.{bits}
use Rattle.dcf77.specs.declared.MinuteTime.{MinuteTime}

-- a number of k bits, which are these marks
pub record Spells (k : ℕ) (m : List ℕ) (n : ℕ) : Type 0 where
  pub below : n < 2 ^ k
  pub marks : bits k n ≡ m

-- what only a minute asks of its fields: second 0, no flag that has no mark, 14 marks, and 60 marks only if
-- a leap second is coming and minute 0 is announced
unfoldable pub fields_representable : MinuteTime → Bool
fields_representable a =
    let t = a.time in
    eqb t.second 0
    && not t.unsynchronised && not t.unverified
    && ltb a.detail.first_marks 16384
    && not (a.detail.sixty && not (t.leap_second_announced && eqb t.minute 0))

-- a run is read as the minute: its fields are ones that a minute has, its offset is the zone's, and its time a reading
unfoldable pub minute_representable : MinuteTime → Bool
minute_representable a =
    let t = a.time in
    fields_representable a
    && eq_ℤ t.utc_offset (cet_offset t.summer_time)
    && is_representable t
