use Rattle.std.proofs.Common.{refl}
use Rattle.clock_time.specs.Lists.{ascii}
use Rattle.layout.specs.Layout.{sample_place, pattern_place}
use Rattle.meinberg_gps.specs.Gps.{gps_layout, gps}
use Rattle.meinberg_gps.proofs.format.GpsStringFormat66.pattern.Goals as goal

pub returns : goal.returns
unfolding gps gps_layout ascii pattern_place sample_place
returns c = refl
