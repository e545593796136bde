use mathlib.Core.Path.{◌∙◌}
use mir.Syntax.{w32}
use Rattle.c_numbers.specs.Numbers.{time_numbers, minute_numbers}
use Rattle.c_numbers.proofs.NumberLaws.{held, flag_byte}
use Rattle.c_numbers.proofs.MinuteTimeNumbers.put.Goals as goal

pub returns : goal.returns
unfolding minute_numbers time_numbers
returns c =
    let sixty = c.from-2.ensures ∙ flag_byte c.args.self.detail.sixty in
    c.put_first.ensures ∙ simp (held w32 c.from.type_inv c.from.ensures, held w32 c.from-2.type_inv sixty)
