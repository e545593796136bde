use Prim.Native.Nat.{◌%◌, ◌/◌, ◌<◌, ◌^◌}
use native.Mathlib.Omega.{arith}
use Rattle.dcf77.specs.Marks.{bits}
use Rattle.dcf77.proofs.SpellLaws.{spells_small, spells_last, spells_join, spells_even}
use Rattle.dcf77_writer.proofs.writing.spell_date.Goals as goal

pub returns : goal.returns
unfolding bits
returns c =
    let day = c.args.t.day in
    let ones : day % 10 < 2 ^ 4 = omega arith in
    let weekday = spells_last 3 c.args.t.weekday in
    let rest = spells_join (spells_last 2 (day / 10)) (spells_join weekday c.spell_month.ensures) in
    rw c.parity.ensures (spells_even (spells_join (spells_small 4 (day % 10) ones) rest))
