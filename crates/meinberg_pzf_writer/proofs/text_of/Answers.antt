use borrow.Author.Rules.{sfits_of}
use mir.Syntax.{w16}
use mir.Val.{SFits}
use Rattle.clock_time.specs.Lists.{ascii}
use Rattle.clock_time.proofs.SameLaws.{zero_bits}
use Rattle.decimal.specs.Decimal.{digits}
use Rattle.layout.specs.Text.{clock_digits}
use Rattle.meinberg_pzf.specs.Pzf.{pzf_text}
use Rattle.meinberg_pzf_writer.proofs.text_of.Goals as goal

pub returns : goal.returns
unfolding pzf_text digits ascii clock_digits
returns c =
    let offset_fits : SFits w16 c.args.t.utc_offset = search sfits_of in
    simp (
      c.clock_digits-d.ensures,
      c.letter_if-7.ensures,
      c.letter_if-6.ensures,
      c.letter_if-5.ensures,
      c.letter_if-4.ensures,
      c.letter_if-3.ensures,
      c.letter_if-2.ensures,
      c.letter_if.ensures,
      zero_bits w16 offset_fits,
    )
