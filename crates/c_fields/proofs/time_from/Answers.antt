use Prim.Native.Nat.{ℕ, ◌<◌}
use mathlib.Core.List.{List}
use lib.IntN.{ℤ}
use mathlib.Core.Path.{◌≡◌}
use mathlib.Core.Bool.{true}
use lib.Dec.{T, ltb, lit<}
use lib.ListN.{length, get_or}
use mir.Syntax.{w16}
use Rattle.clock_time.specs.FieldRanges.{time_ranges, up_to, within}
use Rattle.c_fields.specs.Ranges.{time_from, at, fits}
use Rattle.c_numbers.proofs.NumberLaws.{held}
use Rattle.c_fields.proofs.RangeLaws.{fits_at}
use Rattle.c_fields.proofs.time_from.Goals as goal

-- what is known of a place
place : (z : List ℤ) → fits time_ranges z ≡ true → (i : ℕ) → T (ltb i 14)
    → (i < length z) × (within (get_or time_ranges i (up_to 0)) (at i z) ≡ true)
unfolding time_ranges
place z h i t = fits_at time_ranges z h i (lit< t)

pub value_at-requires : goal.value_at-requires
unfolding time_ranges
value_at-requires c = place c.args.z.now c.requires 0 tt

pub value_at-requires-2 : goal.value_at-requires-2
unfolding time_ranges
value_at-requires-2 c = place c.args.z.now c.requires 1 tt

pub value_at-requires-3 : goal.value_at-requires-3
unfolding time_ranges
value_at-requires-3 c = place c.args.z.now c.requires 2 tt

pub value_at-requires-4 : goal.value_at-requires-4
unfolding time_ranges
value_at-requires-4 c = place c.args.z.now c.requires 3 tt

pub value_at-requires-5 : goal.value_at-requires-5
unfolding time_ranges
value_at-requires-5 c = place c.args.z.now c.requires 4 tt

pub value_at-requires-6 : goal.value_at-requires-6
unfolding time_ranges
value_at-requires-6 c = place c.args.z.now c.requires 5 tt

pub value_at-requires-7 : goal.value_at-requires-7
unfolding time_ranges
value_at-requires-7 c = place c.args.z.now c.requires 6 tt

pub value_at-requires-8 : goal.value_at-requires-8
unfolding time_ranges
value_at-requires-8 c = place c.args.z.now c.requires 7 tt

pub value_at-requires-9 : goal.value_at-requires-9
unfolding time_ranges
value_at-requires-9 c = place c.args.z.now c.requires 8 tt

pub value_at-requires-10 : goal.value_at-requires-10
unfolding time_ranges
value_at-requires-10 c = place c.args.z.now c.requires 9 tt

pub value_at-requires-11 : goal.value_at-requires-11
unfolding time_ranges
value_at-requires-11 c = place c.args.z.now c.requires 10 tt

pub value_at-requires-12 : goal.value_at-requires-12
unfolding time_ranges
value_at-requires-12 c = place c.args.z.now c.requires 11 tt

pub value_at-requires-13 : goal.value_at-requires-13
unfolding time_ranges
value_at-requires-13 c = place c.args.z.now c.requires 12 tt

pub value_at-requires-14 : goal.value_at-requires-14
unfolding time_ranges
value_at-requires-14 c = place c.args.z.now c.requires 13 tt

pub returns : goal.returns
unfolding time_from
returns c =
    simp (
      c.value_at.ensures,
      c.value_at-2.ensures,
      c.value_at-3.ensures,
      c.value_at-4.ensures,
      c.value_at-5.ensures,
      c.value_at-6.ensures,
      c.value_at-7.ensures,
      held w16 c.value_at-8.type_inv c.value_at-8.ensures,
      c.value_at-9.ensures,
      c.value_at-10.ensures,
      c.value_at-11.ensures,
      c.value_at-12.ensures,
      c.value_at-13.ensures,
      c.value_at-14.ensures,
    )
