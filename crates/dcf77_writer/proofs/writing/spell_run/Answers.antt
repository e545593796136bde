use Rattle.dcf77.specs.Marks.{bits}
use Rattle.dcf77.specs.Minute.{first_marks_of}
use Rattle.dcf77.proofs.SpellLaws.{spells_last, spells_join, spells_short}
use Rattle.dcf77_writer.proofs.writing.spell_run.Goals as goal

pub returns : goal.returns
unfolding bits first_marks_of
returns c =
    let date = spells_join c.spell_hour.ensures c.spell_date-date.ensures in
    let groups = spells_join c.spell_minute.ensures date in
    spells_short
    (spells_join (spells_last 14 c.args.a.detail.first_marks) (spells_join c.spell_flags-flags.ensures groups))
