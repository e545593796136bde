use Rattle.clock_time.specs.Lists.{ascii}
use Rattle.layout.proofs.LayoutLaws.{test_fits}
use Rattle.elv_dcf7000.specs.Elv.{elv_layout}
use Rattle.elv_dcf7000.proofs.ElvStringFormat21.read_if_fits.Goals as goal

pub read_fitting-requires : goal.read_fitting-requires
unfolding elv_layout ascii
read_fitting-requires c = test_fits c.told-s c.fits.ensures c.if-fits.true
