-- It is the layout's own test, place by place.
use mathlib.Core.Bool.{true}
use Rattle.clock_time.specs.Lists.{ascii, slice}
use Rattle.layout.specs.Layout.{allowed, fits_from}
use Rattle.layout.proofs.PartLaws.{settled_fit_lem}
use Rattle.meinberg_gps.specs.Gps.{gps_layout}
use Rattle.meinberg_gps.proofs.format.rest_fits.Goals as goal

pub returns : goal.returns
unfolding fits_from allowed ascii gps_layout
returns c =
    settled_fit_lem true 40 (slice 40 26 gps_layout) c.args.s.now
