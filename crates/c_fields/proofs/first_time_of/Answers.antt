use mathlib.Core.Path.{sym, ◌∙◌}
use Rattle.clock_time.specs.FieldRanges.{time_ranges}
use Rattle.c_fields.proofs.RangeLaws.{numbered_fit, numbered_unfit}
use Rattle.c_fields.proofs.first_time_of.Goals as goal

pub time_from-requires : goal.time_from-requires
unfolding time_ranges
time_from-requires c = sym c.are_within.ensures ∙ c.if-are_within.true

pub returns-then-are_within : goal.returns-then-are_within
unfolding time_ranges
returns-then-are_within c = numbered_fit (sym c.are_within.ensures ∙ c.if-are_within.true) c.time_from.ensures

pub returns : goal.returns
unfolding time_ranges
returns c = numbered_unfit _ (sym c.are_within.ensures ∙ c.if-are_within.false)
