use borrow.Author.Rules.{sfits_of}
use lib.Dec.{lit<}
use lib.IntN.{pos}
use mir.Syntax.{w32}
use Rattle.clock_time.proofs.SameLaws.{eq_bits}
use Rattle.c_fields.proofs.BoolField.of.Goals as goal

pub returns : goal.returns
returns c = eq_bits w32 {b = pos 1} (search sfits_of) (record { sfits = lit< tt })
