use Rattle.std.proofs.Common.{refl}
use Rattle.clock_time.specs.Lists.{ascii}
use Rattle.layout.specs.Layout.{sample_place, pattern_place}
use Rattle.meinberg_pzf.specs.Pzf.{pzf_layout, pzf}
use Rattle.meinberg_pzf.proofs.PzfStringFormat32.pattern.Goals as goal

pub returns : goal.returns
unfolding pzf pzf_layout ascii pattern_place sample_place
returns c = refl
