use native.Mathlib.Omega.{arith}
use mathlib.Core.Path.{refl}
use Rattle.clock_time.specs.Lists.{ascii}
use Rattle.listing_lines.specs.Totals.{totals_line}
use Rattle.listing_lines.proofs.NumeralLaws.{decimal_numeral}
use Rattle.listing_lines.proofs.last_line.totals_line.Goals as goal

pub returns : goal.returns
unfolding totals_line ascii
returns c =
    let frames = decimal_numeral c.args.t.frames (omega arith) in
    let refused = decimal_numeral c.args.t.refused (omega arith) in
    let dropped = decimal_numeral c.args.t.dropped (omega arith) in
    rw (c.push_str-7.ensures.bytes, c.push_str-6.ensures.bytes, c.push_str-5.ensures.bytes, c.push_str-4.ensures.bytes)
    (rw (c.push_str-3.ensures.bytes, c.push_str-2.ensures.bytes, c.push_str.ensures.bytes, c.new-line.ensures)
    (rw (c.format.ensures.text, c.format-2.ensures.text, c.format-3.ensures.text, frames, refused, dropped) refl))
