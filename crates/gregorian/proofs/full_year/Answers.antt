use Rattle.std.proofs.Common.{refl}
use Rattle.gregorian.specs.Date.{full_year}
use Rattle.gregorian.proofs.full_year.Goals as goal

pub returns : goal.returns
unfolding full_year
returns c = refl
