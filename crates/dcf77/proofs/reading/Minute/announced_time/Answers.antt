use mir.Syntax.{w16}
use mir.Val.{SFits}
use mir.Facts.{to_z-of_z}
use borrow.Author.Rules.{sfits_of}
use Rattle.dcf77.specs.Marks.{two_digits}
use Rattle.dcf77.specs.Minute.{announced}
use Rattle.dcf77.proofs.NumberLaws.{minute_ones, minute_tens_lem, hour_ones, hour_tens_lem, day_ones}
use Rattle.dcf77.proofs.NumberLaws.{day_tens_lem, weekday_number_lem, month_ones, month_tens_lem, year_ones, year_tens}
use Rattle.dcf77.proofs.reading.Minute.announced_time.Goals as goal

pub returns : goal.returns
unfolding announced two_digits
returns c =
    let k = c.args.self.now.numbers in
    let f : SFits w16 c.cet_offset.result = search sfits_of in
    rw (to_z-of_z f)
    (simp (
      c.cet_offset.ensures,
      c.full_year.ensures,
      minute_ones k,
      minute_tens_lem k,
      hour_ones k,
      hour_tens_lem k,
      day_ones k,
      day_tens_lem k,
      weekday_number_lem k,
      month_ones k,
      month_tens_lem k,
      year_ones k,
      year_tens k,
    ))
