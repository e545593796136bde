use Rattle.std.proofs.Common.{refl}
use Rattle.clock_time.specs.Lists.{ascii}
use Rattle.layout.specs.Layout.{sample_place, pattern_place}
use Rattle.elv_dcf7000.specs.Elv.{elv_layout, elv}
use Rattle.elv_dcf7000.proofs.ElvStringFormat21.pattern.Goals as goal

pub returns : goal.returns
unfolding elv elv_layout ascii pattern_place sample_place
returns c = refl
