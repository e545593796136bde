use borrow.Author.Rules.{sfits_of}
use mir.Syntax.{w16}
use mir.Val.{SFits}
use mir.Facts.{to_z-of_z}
use Rattle.clock_time.specs.Lists.{ascii}
use Rattle.layout_words.proofs.PairLaws.{numbers_fit, low_digit}
use Rattle.meinberg_gps.specs.Gps.{gps_layout, clock_of}
use Rattle.meinberg_gps.proofs.fitting.Fitting.clock.Goals as goal

pub returns : goal.returns
unfolding clock_of gps_layout ascii
returns c =
    let h = c.args.self.fits in
    let f : SFits w16 c.offset.result = search sfits_of in
    rw (to_z-of_z f)
    (simp (
      c.offset.ensures,
      c.full_year.ensures,
      c.numbers_at-2.ensures,
      c.numbers_at.ensures,
      numbers_fit h,
      low_digit h,
    ))
