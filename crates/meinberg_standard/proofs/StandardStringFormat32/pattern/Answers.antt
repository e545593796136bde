use Rattle.std.proofs.Common.{refl}
use Rattle.clock_time.specs.Lists.{ascii}
use Rattle.layout.specs.Layout.{sample_place, pattern_place}
use Rattle.meinberg_standard.specs.Standard.{standard_layout, standard}
use Rattle.meinberg_standard.proofs.StandardStringFormat32.pattern.Goals as goal

pub returns : goal.returns
unfolding standard standard_layout ascii pattern_place sample_place
returns c = refl
