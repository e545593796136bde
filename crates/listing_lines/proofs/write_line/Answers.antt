use Rattle.listing_lines.specs.Line.{write_line}
use Rattle.listing_lines.proofs.write_line.Goals as goal

pub returns : goal.returns
unfolding write_line
returns c =
    rw (← c.is_reading.ensures, ← c.time_line-text.ensures) c.write_bytes.ensures
