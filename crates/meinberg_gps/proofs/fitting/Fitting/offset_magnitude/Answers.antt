use mathlib.Core.Path.{refl}
use lib.Dec.{lit≤}
use Rattle.clock_time.specs.Lists.{ascii}
use Rattle.layout_words.proofs.PairLaws.{numbers_two}
use Rattle.meinberg_gps.specs.Gps.{gps_layout}
use Rattle.meinberg_gps.proofs.fitting.Fitting.offset_magnitude.Goals as goal

pub returns : goal.returns
unfolding gps_layout ascii
returns c =
    simp (c.numbers_at.ensures, numbers_two c.args.self.fits 25 (lit≤ tt) refl refl)
