use mathlib.Core.Bool.{not}
use lib.Dec.{lit<}
use Rattle.dcf77.specs.Marks.{bits}
use Rattle.dcf77.proofs.SpellLaws.{spells_small, spells_mark, spells_join}
use Rattle.dcf77_writer.proofs.writing.spell_flags.Goals as goal

pub returns : goal.returns
unfolding bits
returns c =
    let t = c.args.t in
    rw (c.from.ensures, c.from-2.ensures, c.from-3.ensures, c.from-4.ensures, c.from-5.ensures)
    (spells_join
    (spells_join (spells_join (spells_mark t.alternate_antenna) (spells_mark t.dst_change_announced))
    (spells_join (spells_mark t.summer_time) (spells_mark (not t.summer_time))))
    (spells_join (spells_mark t.leap_second_announced) (spells_small 1 1 (lit< tt))))
