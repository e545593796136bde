use Rattle.clock_time.specs.Lists.{ascii}
use Rattle.layout_words.proofs.PairLaws.{numbers_fit}
use Rattle.meinberg_gps.specs.Gps.{gps_layout, leap_mismatch}
use Rattle.meinberg_gps.proofs.fitting.Fitting.has_leap_mismatch.Goals as goal

pub returns : goal.returns
unfolding leap_mismatch gps_layout ascii
returns c =
    simp (c.numbers_at.ensures, numbers_fit c.args.self.fits)
