-- The number of a run of marks.
use Rattle.std.specs.Prelude.{ℕ, ◌+◌, ◌*◌, List, pos}
use Rattle.clock_time.specs.Errors.{Answer, accepted, refused}
use Rattle.clock_time.specs.Same.{eq_ℤ}
use Rattle.calendar.specs.Date.{days_since_epoch}
use Rattle.dcf77.specs.Minute.{mark, read_minute}
use Rattle.dcf77.specs.declared.MinuteTime.{MinuteTime}

-- "at a gap the refusal number; or, accepted, 100 + 32 L + 16 (run of 60) + 8 (offset 120) + 4 antenna + 2 change
-- + 1 leap, where L is local minutes from 1970-01-01 00:00" (01, Tape and sheet)
abbrev pub outcome_number : Answer MinuteTime → ℕ
outcome_number (refused k) = k
outcome_number (accepted a) =
    let t = a.time in
    100 + 32 * (1440 * days_since_epoch t.year t.month t.day + 60 * t.hour + t.minute)
    + 16 * mark a.detail.sixty + 8 * mark (eq_ℤ t.utc_offset (pos 120))
    + 4 * mark t.alternate_antenna + 2 * mark t.dst_change_announced + mark t.leap_second_announced

-- the number of a run of marks
unfoldable pub run_number : List ℕ → ℕ
run_number m = outcome_number (read_minute m)
