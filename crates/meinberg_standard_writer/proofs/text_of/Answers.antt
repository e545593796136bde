use borrow.Author.Rules.{sfits_of}
use mir.Syntax.{w16}
use mir.Val.{SFits}
use mir.Facts.{to_z-of_z}
use Rattle.clock_time.specs.Lists.{ascii}
use Rattle.decimal.specs.Decimal.{digits}
use Rattle.layout.specs.Text.{clock_digits}
use Rattle.meinberg_standard.specs.Standard.{standard_text}
use Rattle.meinberg_standard_writer.proofs.text_of.Goals as goal

pub returns : goal.returns
unfolding standard_text digits ascii clock_digits
returns c =
    let offset_fits : SFits w16 c.args.t.utc_offset = search sfits_of in
    simp (
      c.clock_digits-d.ensures,
      to_z-of_z offset_fits,
      c.announced_letter.ensures,
      c.zone_letter.ensures,
      c.letter_if-2.ensures,
      c.letter_if.ensures,
    )
