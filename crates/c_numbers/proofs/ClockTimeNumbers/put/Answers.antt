use Rattle.c_numbers.specs.Numbers.{time_numbers}
use Rattle.c_numbers.proofs.ClockTimeNumbers.put.Goals as goal

pub returns : goal.returns
unfolding time_numbers
returns c = c.put_first.ensures
