-- What is accepted is a valid reading, whose numbers fit the fields of a reading.
use Prim.Native.Nat.{ℕ, ◌≤◌}
use native.Mathlib.Omega.{arith}
use mathlib.Core.Path.{◌≡◌}
use mathlib.Core.Bool.{true}
use mathlib.Core.List.{List}
use lib.IntN.{ℤ, nat_abs}
use borrow.Author.Tests.{leb-true}
use Rattle.clock_time.specs.Errors.{accepted}
use Rattle.clock_time.specs.FieldRanges.{i16_range, within, FitsClockTime}
use Rattle.clock_time.specs.declared.ClockTime.{ClockTime}
use Rattle.clock_time.proofs.FieldRangesLaws.{magnitude_within}
use Rattle.calendar.specs.UnixTime.{offset_in_range, is_reading}
use Rattle.calendar.proofs.ValidLaws.{valid}
use Rattle.dcf77.specs.Minute.{minute_fields, read_minute}
use Rattle.dcf77.specs.declared.MinuteTime.{MinuteTime}
use Rattle.dcf77.proofs.MarkLaws.{small_sure, binary_below}
use Rattle.dcf77.proofs.AcceptLaws.{read_keeps}

offset_small : (z : ℤ) → offset_in_range z ≡ true → within i16_range z ≡ true
unfolding offset_in_range
offset_small z h = let k = leb-true (nat_abs z) 840 h in magnitude_within 32767 z (omega arith)

pub valid_fits : (t : ClockTime) → is_reading t ≡ true → FitsClockTime t
valid_fits t h =
    let v = valid t h in
    record {
      year = omega (arith, v.date.year_most);
      month = omega (arith, v.date.month_most);
      day = omega (arith, v.date.day_most);
      weekday = omega (arith, v.weekday_most);
      hour = omega (arith, v.hour);
      minute = omega (arith, v.minute);
      second = omega (arith, v.second);
      offset = offset_small t.utc_offset v.offset;
    }

-- ---- a minute
pub marks_small : (m : List ℕ) (a : MinuteTime) → read_minute m ≡ accepted a → a.detail.first_marks ≤ 65535
unfolding minute_fields
marks_small m a h =
    let r = read_keeps m a h in
    let small = binary_below m (small_sure m r.0.0.sure) 14 1 in
    rw r.1 (omega arith)
