use Rattle.clock_time.specs.Lists.{ascii}
use Rattle.layout.proofs.LayoutLaws.{test_fits}
use Rattle.meinberg_pzf.specs.Pzf.{pzf_layout}
use Rattle.meinberg_pzf.proofs.PzfStringFormat32.read_if_fits.Goals as goal

pub read_fitting-requires : goal.read_fitting-requires
unfolding pzf_layout ascii
read_fitting-requires c = test_fits c.told-s c.fits.ensures c.if-fits.true
