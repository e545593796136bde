use mathlib.Core.Path.{refl}
use Rattle.clock_time.specs.Lists.{ascii}
use Rattle.list_times.proofs.list.Goals as goal

pub write_heading-requires : goal.write_heading-requires
unfolding ascii
write_heading-requires g c = refl
