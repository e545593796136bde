-- Laws of items and their lines.
use Rattle.std.proofs.Common.{◌≤◌, ◌++◌, length, arith, length-append}
use Rattle.clock_time.specs.Errors.{accepted, refused}
use Rattle.clock_time.specs.Lists.{ascii}
use Rattle.listing_lines.specs.Numeral.{numeral}
use Rattle.listing_lines.proofs.LineLaws.{length_line}
use Rattle.listing_lines.proofs.NumeralLaws.{numeral_short}
use Rattle.listing.specs.Items.{Item, nothing, string, overlong, item_line}

-- ---- no line is longer than that of a clock time
pub line_short : (i : Item) → length (item_line i) ≤ 35
unfolding item_line ascii
line_short nothing = omega arith
line_short (string (accepted t)) = omega (arith, length_line t)
line_short (string (refused k)) =
    let h = length-append (ascii "refused " ++ numeral k) (ascii "\n") in
    omega (arith, h, length-append (ascii "refused ") (numeral k), numeral_short 19 k)
line_short overlong = omega arith
