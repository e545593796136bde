use borrow.Author.Rules.{sfits_of}
use mathlib.Core.Path.{◌∙◌}
use mir.Syntax.{w32}
use mir.Val.{SFits}
use mir.Facts.{to_z-of_z}
use Rattle.c_numbers.specs.Numbers.{time_numbers, gps_numbers}
use Rattle.c_numbers.proofs.NumberLaws.{held}
use Rattle.c_numbers.proofs.GpsTimeNumbers.put.Goals as goal

pub returns : goal.returns
unfolding gps_numbers time_numbers
returns c =
    let p = c.args.self.position in
    let latitude : SFits w32 p.latitude = search sfits_of in
    let longitude : SFits w32 p.longitude = search sfits_of in
    c.put_first.ensures
    ∙ simp (to_z-of_z latitude, to_z-of_z longitude, held w32 c.from.type_inv c.from.ensures)
