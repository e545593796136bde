use mathlib.Core.Path.{refl}
use lib.Dec.{lit≤}
use Rattle.clock_time.specs.Lists.{ascii}
use Rattle.layout_words.proofs.PairLaws.{numbers_two}
use Rattle.meinberg_gps.specs.Gps.{gps_layout, offset_fault}
use Rattle.meinberg_gps.proofs.fitting.Fitting.has_offset_fault.Goals as goal

pub returns : goal.returns
unfolding offset_fault gps_layout ascii
returns c =
    simp (
      c.sign_holds.ensures,
      c.offset_magnitude.ensures,
      c.numbers_at.ensures,
      numbers_two c.args.self.fits 25 (lit≤ tt) refl refl,
    )
