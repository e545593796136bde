use Rattle.std.proofs.Common.{refl}
use Rattle.clock_time.specs.Lists.{ascii}
use Rattle.layout.specs.Layout.{sample_place, pattern_place}
use Rattle.trimble_sv6.specs.Trimble.{trimble_layout, trimble}
use Rattle.trimble_sv6.proofs.format.TrimbleStringFormat37.pattern.Goals as goal

pub returns : goal.returns
unfolding trimble trimble_layout ascii pattern_place sample_place
returns c = refl
