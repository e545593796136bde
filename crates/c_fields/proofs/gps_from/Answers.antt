use lib.Dec.{lit<}
use mir.Syntax.{w32}
use Rattle.clock_time.specs.FieldRanges.{time_ranges, gps_ranges}
use Rattle.c_fields.specs.Ranges.{gps_from}
use Rattle.c_numbers.proofs.NumberLaws.{held}
use Rattle.c_fields.proofs.RangeLaws.{fits_at, fits_first}
use Rattle.c_fields.proofs.gps_from.Goals as goal

pub time_from-time-requires : goal.time_from-time-requires
unfolding gps_ranges time_ranges
time_from-time-requires c = fits_first time_ranges _ _ c.requires

pub value_at-requires : goal.value_at-requires
unfolding gps_ranges time_ranges
value_at-requires c = fits_at gps_ranges _ c.requires 14 (lit< tt)

pub value_at-requires-2 : goal.value_at-requires-2
unfolding gps_ranges time_ranges
value_at-requires-2 c = fits_at gps_ranges _ c.requires 15 (lit< tt)

pub value_at-requires-3 : goal.value_at-requires-3
unfolding gps_ranges time_ranges
value_at-requires-3 c = fits_at gps_ranges _ c.requires 16 (lit< tt)

pub returns : goal.returns
unfolding gps_from
returns c =
    cc (
      held w32 c.value_at.type_inv c.value_at.ensures,
      held w32 c.value_at-2.type_inv c.value_at-2.ensures,
    )
