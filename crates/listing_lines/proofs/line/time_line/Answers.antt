use mir.Syntax.{w16}
use mir.Val.{SFits}
use mir.Facts.{to_z-of_z}
use borrow.Author.Rules.{sfits_of}
use Rattle.clock_time.specs.Lists.{ascii}
use Rattle.decimal.specs.Decimal.{digits}
use Rattle.layout.specs.Text.{clock_digits}
use Rattle.listing_lines.specs.Line.{line_with}
use Rattle.listing_lines.proofs.LineLaws.{line_parts}
use Rattle.listing_lines.proofs.line.time_line.Goals as goal

pub returns : goal.returns
unfolding line_with digits ascii clock_digits
returns c =
    let offset_fits : SFits w16 c.args.t.utc_offset =
    search sfits_of in
    let zone = rw (to_z-of_z offset_fits) at c.offset_text-zone.ensures in
    simp (c.clock_digits-d.ensures, c.two_digits-century.ensures, c.from.ensures)
    (line_parts c.args.t zone c.flags_text-flags.ensures)
