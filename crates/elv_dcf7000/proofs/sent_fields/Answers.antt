use borrow.Author.Rules.{sfits_of}
use mir.Syntax.{w16}
use mir.Val.{SFits}
use mir.Facts.{to_z-of_z}
use Rattle.clock_time.specs.Lists.{ascii}
use Rattle.layout_words.proofs.PairLaws.{numbers_fit}
use Rattle.elv_dcf7000.specs.Elv.{elv_layout, sent_fields}
use Rattle.elv_dcf7000.proofs.ElvLaws.{flags_read}
use Rattle.elv_dcf7000.proofs.sent_fields.Goals as goal

pub returns : goal.returns
unfolding sent_fields elv_layout ascii
returns c =
    let h = c.requires.0 in
    let f : SFits w16 c.offset_of.result = search sfits_of in
    rw (to_z-of_z f)
    (simp (
      c.offset_of.ensures,
      c.full_year.ensures,
      c.numbers_at-2.ensures,
      c.numbers_at.ensures,
      flags_read h c.requires.1,
      numbers_fit h,
    ))
