use Rattle.std.proofs.Common.{refl, arith}
use Rattle.clock_time.specs.Lists.{ascii}
use Rattle.listing.specs.Items.{item_line}
use Rattle.listing_lines.proofs.NumeralLaws.{decimal_numeral}
use Rattle.listing.proofs.entry.string_line.Goals as goal

pub returns-in-Ok : goal.returns-in-Ok
unfolding item_line
returns-in-Ok c =
    let extended = rw c.unwrap.ensures at c.try_extend_from_slice.ensures.ok in
    rw (c.in-Ok.is, ← c.time_line.ensures, extended, c.new-line.ensures) refl

pub returns-in-Err : goal.returns-in-Err
unfolding item_line ascii
returns-in-Err c =
    let begun = rw c.unwrap-in-Err.ensures at c.try_extend_from_slice-in-Err.ensures.ok in
    let numbered = rw c.unwrap-in-Err-2.ensures at c.try_extend_from_slice-in-Err-2.ensures.ok in
    let numeral = decimal_numeral c.from.result (omega arith) in
    rw (c.in-Err.is, c.push.ensures.items, numbered, begun, c.new-line.ensures)
    (rw (c.as_bytes.ensures.value, c.format.ensures.text, numeral, c.from.ensures) refl)
