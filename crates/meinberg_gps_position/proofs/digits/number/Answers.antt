use native.Mathlib.Omega.{arith}
use borrow.Author.Rules.{rules}
use Rattle.clock_time.proofs.ListsLaws.{slice_known}
use Rattle.decimal.specs.Decimal.{value_from}
use Rattle.meinberg_gps_position.proofs.AlignedLaws.{numeric_at}
use Rattle.meinberg_gps_position.proofs.digits.number.Goals as goal

pub returns : goal.returns
unfolding value_from
returns c =
    let four = slice_known 4 c.args.bytes (search rules) in
    let at = numeric_at c.args.bytes c.requires in
    rw four (omega (arith, at 0 (search rules), at 1 (search rules), at 2 (search rules), at 3 (search rules)))
