use native.Mathlib.Omega.{arith}
use borrow.Author.Rules.{rules}
use mathlib.Core.List.{◌∷◌}
use Rattle.clock_time.specs.Lists.{slice}
use Rattle.clock_time.proofs.ListsLaws.{slice_known}
use Rattle.decimal.specs.Decimal.{is_digit, value_from}
use Rattle.meinberg_gps_position.specs.Aligned.{digits_or_blanks}
use Rattle.meinberg_gps_position.proofs.AlignedLaws.{value_small}
use Rattle.meinberg_gps_position.proofs.angle.AngleDigits.magnitude.Goals as goal

pub number-requires : goal.number-requires
unfolding digits_or_blanks is_digit
number-requires c =
    rw (slice_known 3 c.args.self.whole (search rules)) at c.requires.0

-- three places and four, each below a power of ten
pub overflow_mul-result : goal.overflow_mul-result
unfolding digits_or_blanks is_digit
overflow_mul-result c =
    let whole = rw (slice_known 3 c.args.self.whole (search rules)) at c.requires.0 in
    omega (arith, value_small (32 ∷ slice 0 3 c.args.self.whole) whole, c.number.ensures)

pub overflow_add-result : goal.overflow_add-result
unfolding digits_or_blanks is_digit
overflow_add-result c =
    let whole = rw (slice_known 3 c.args.self.whole (search rules)) at c.requires.0 in
    let after = rw (slice_known 4 c.args.self.decimals (search rules)) at (value_small c.args.self.decimals c.requires.1) in
    omega (
      arith,
      value_small (32 ∷ slice 0 3 c.args.self.whole) whole,
      after,
      c.number.ensures,
      rw (slice_known 4 c.args.self.decimals (search rules)) at c.number-2.ensures,
    )

pub returns : goal.returns
unfolding value_from
returns c =
    rw (slice_known 3 c.args.self.whole (search rules), slice_known 4 c.args.self.decimals (search rules))
    (omega (arith, c.number.ensures, rw (slice_known 4 c.args.self.decimals (search rules)) at c.number-2.ensures))
