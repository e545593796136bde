use lib.Dec.{lit<}
use Rattle.clock_time.specs.FieldRanges.{time_ranges}
use Rattle.c_fields.specs.Ranges.{minute_from, minute_ranges}
use Rattle.c_fields.proofs.RangeLaws.{fits_at, fits_first}
use Rattle.c_fields.proofs.minute_from.Goals as goal

pub time_from-time-requires : goal.time_from-time-requires
unfolding minute_ranges time_ranges
time_from-time-requires c = fits_first time_ranges _ _ c.requires

pub value_at-requires : goal.value_at-requires
unfolding minute_ranges time_ranges
value_at-requires c = fits_at minute_ranges _ c.requires 14 (lit< tt)

pub value_at-requires-2 : goal.value_at-requires-2
unfolding minute_ranges time_ranges
value_at-requires-2 c = fits_at minute_ranges _ c.requires 15 (lit< tt)

pub returns : goal.returns
unfolding minute_from
returns c = cc
