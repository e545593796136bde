use Rattle.listing_lines.specs.Totals.{write_totals}
use Rattle.listing_lines.proofs.write_totals.Goals as goal

pub returns : goal.returns
unfolding write_totals
returns c = rw (← c.totals_line-line.ensures, ← c.as_str.ensures.value, ← c.as_bytes.ensures.value) c.write_bytes.ensures
