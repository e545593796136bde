use borrow.Author.Rules.{sfits_of}
use mir.Syntax.{w16}
use mir.Val.{SFits}
use mir.Facts.{to_z-of_z}
use Rattle.clock_time.specs.Lists.{ascii}
use Rattle.layout_words.proofs.PairLaws.{numbers_fit, low_digit}
use Rattle.meinberg_pzf.specs.Pzf.{pzf_layout, pzf_fields}
use Rattle.meinberg_pzf.proofs.fields.Goals as goal

pub returns : goal.returns
unfolding pzf_fields pzf_layout ascii
returns c =
    let h = c.requires in
    let f : SFits w16 c.offset_of.result = search sfits_of in
    rw (to_z-of_z f)
    (simp (
      c.offset_of.ensures,
      c.full_year.ensures,
      c.numbers_at-2.ensures,
      c.numbers_at.ensures,
      numbers_fit h,
      low_digit h,
    ))
