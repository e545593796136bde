use mathlib.Core.Path.{◌∙◌}
use mir.Syntax.{w32}
use Rattle.c_numbers.specs.Numbers.{time_numbers, trimble_numbers}
use Rattle.c_numbers.proofs.NumberLaws.{held}
use Rattle.c_numbers.proofs.TrimbleTimeNumbers.put.Goals as goal

pub returns : goal.returns
unfolding trimble_numbers time_numbers
returns c = c.put_first.ensures ∙ simp (held w32 c.from.type_inv c.from.ensures)
