use Prim.Native.Nat.{◌%◌, ◌/◌, ◌<◌, ◌^◌}
use native.Mathlib.Omega.{arith}
use Rattle.dcf77.specs.Marks.{bits}
use Rattle.dcf77.proofs.SpellLaws.{spells_small, spells_last, spells_join}
use Rattle.dcf77_writer.proofs.writing.spell_month.Goals as goal

pub returns : goal.returns
unfolding bits
returns c =
    let month = c.args.t.month in
    let year = c.args.t.year in
    let ones : month % 10 < 2 ^ 4 = omega arith in
    let years : year % 10 < 2 ^ 4 = omega arith in
    let decades : year / 10 % 10 < 2 ^ 4 = omega arith in
    spells_join (spells_small 4 (month % 10) ones)
    (spells_join (spells_last 1 (month / 10))
    (spells_join (spells_small 4 (year % 10) years) (spells_small 4 (year / 10 % 10) decades)))
