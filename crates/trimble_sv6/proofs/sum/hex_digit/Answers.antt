use Rattle.std.proofs.Common.{sym}
use Rattle.clock_time.specs.Lists.{ascii}
use Rattle.trimble_sv6.proofs.SumLaws.{hex_capital}
use Rattle.trimble_sv6.proofs.sum.hex_digit.Goals as goal

pub returns : goal.returns
unfolding ascii
returns c = sym (hex_capital c.args.n)
