use Rattle.listing_lines.specs.Line.{flags_text}
use Rattle.listing_lines.proofs.line.flags_text.Goals as goal

pub returns : goal.returns
unfolding flags_text
returns c = cc
