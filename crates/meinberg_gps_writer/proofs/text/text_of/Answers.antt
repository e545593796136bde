use borrow.Author.Rules.{sfits_of}
use mathlib.Core.Path.{◌∙◌}
use mir.Syntax.{w16}
use mir.Val.{SFits}
use mir.Facts.{to_z-of_z}
use Rattle.meinberg_gps.specs.Gps.{gps_text}
use Rattle.meinberg_gps_writer.proofs.text.text_of.Goals as goal

pub returns : goal.returns
unfolding gps_text
returns c =
    let offset_fits : SFits w16 c.args.g.time.utc_offset =
    search sfits_of in
    let offset = rw (to_z-of_z offset_fits) at c.offset_text-offset.ensures in
    c.text_with.ensures
    ∙ simp (c.text_of-pzf.ensures, offset, c.letter_if-leap.ensures, c.position_text-position.ensures)
