use native.Mathlib.Omega.{arith}
use mathlib.Core.Path.{sym, ◌∙◌}
use Rattle.clock_time.specs.Lists.{slice}
use Rattle.decimal.specs.Decimal.{is_digit, value_from}
use Rattle.meinberg_gps_position.specs.Aligned.{digits_or_blanks}
use Rattle.meinberg_gps_position.proofs.AlignedLaws.{value_small}
use Rattle.meinberg_gps_position.proofs.PositionLaws.{digits_tested, position_digits_lem, position_no_digits}
use Rattle.meinberg_gps_position.proofs.PositionLaws.{position_short, position_stands}
use Rattle.meinberg_gps_position.proofs.read_position.Goals as goal

pub returns-then-s-lt64 : goal.returns-then-s-lt64
returns-then-s-lt64 c = position_short _ c.if-s-lt64.true

pub returns-then-not-stand-are_aligned : goal.returns-then-not-stand-are_aligned
returns-then-not-stand-are_aligned c =
    let tested = digits_tested c.args.s.now c.stand.ensures c.stand-2.ensures c.are_aligned.ensures in
    position_no_digits _ (sym tested ∙ c.if-not-stand-are_aligned.true)

pub magnitude-requires : goal.magnitude-requires
unfolding digits_or_blanks is_digit
magnitude-requires c =
    let tested = digits_tested c.args.s.now c.stand.ensures c.stand-2.ensures c.are_aligned.ensures in
    let d = (position_digits_lem _ (sym tested ∙ c.if-not-stand-are_aligned.false)).latitude_digits in
    (d.whole_numeric, d.after_numeric)

pub magnitude-requires-2 : goal.magnitude-requires-2
magnitude-requires-2 c =
    let tested = digits_tested c.args.s.now c.stand.ensures c.stand-2.ensures c.are_aligned.ensures in
    let d = (position_digits_lem _ (sym tested ∙ c.if-not-stand-are_aligned.false)).longitude_digits in
    (d.whole_numeric, d.after_numeric)

pub number-requires : goal.number-requires
number-requires c =
    let tested = digits_tested c.args.s.now c.stand.ensures c.stand-2.ensures c.are_aligned.ensures in
    (position_digits_lem _ (sym tested ∙ c.if-not-stand-are_aligned.false)).height_numeric

pub overflow_cast-number : goal.overflow_cast-number
overflow_cast-number c =
    let tested = digits_tested c.args.s.now c.stand.ensures c.stand-2.ensures c.are_aligned.ensures in
    let d = position_digits_lem _ (sym tested ∙ c.if-not-stand-are_aligned.false) in
    omega (arith, value_small (slice 60 4 c.args.s.now) d.height_numeric, c.number.ensures)

pub returns : goal.returns
unfolding value_from
returns c =
    let tested = digits_tested c.args.s.now c.stand.ensures c.stand-2.ensures c.are_aligned.ensures in
    position_stands _ (sym tested ∙ c.if-not-stand-are_aligned.false) c.magnitude.ensures c.magnitude-2.ensures
    c.number.ensures c.position_from.ensures
