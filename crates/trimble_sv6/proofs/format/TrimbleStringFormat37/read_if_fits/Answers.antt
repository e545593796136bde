use Rattle.clock_time.specs.Lists.{ascii}
use Rattle.layout.proofs.LayoutLaws.{test_fits}
use Rattle.trimble_sv6.specs.Trimble.{trimble_layout}
use Rattle.trimble_sv6.proofs.format.TrimbleStringFormat37.read_if_fits.Goals as goal

pub read_fitting-requires : goal.read_fitting-requires
unfolding trimble_layout ascii
read_fitting-requires c = test_fits c.told-s c.fits.ensures c.if-fits.true
