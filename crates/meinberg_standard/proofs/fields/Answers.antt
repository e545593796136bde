use borrow.Author.Rules.{sfits_of}
use mir.Syntax.{w16}
use mir.Val.{SFits}
use mir.Facts.{to_z-of_z}
use Rattle.clock_time.specs.Lists.{ascii}
use Rattle.layout_words.proofs.PairLaws.{numbers_fit, low_digit}
use Rattle.meinberg_standard.specs.Standard.{standard_layout, standard_fields}
use Rattle.meinberg_standard.proofs.fields.Goals as goal

pub returns : goal.returns
unfolding standard_fields standard_layout ascii
returns c =
    let h = c.requires in
    let f : SFits w16 c.zone_offset.result = search sfits_of in
    rw (to_z-of_z f)
    (simp (
      c.zone_offset.ensures,
      c.full_year.ensures,
      c.numbers_at-2.ensures,
      c.numbers_at.ensures,
      numbers_fit h,
      low_digit h,
    ))
