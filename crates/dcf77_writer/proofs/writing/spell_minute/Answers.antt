use Rattle.dcf77.proofs.SpellLaws.{spells_number}
use Rattle.dcf77_writer.proofs.writing.spell_minute.Goals as goal

pub returns : goal.returns
returns c = rw c.parity.ensures (spells_number 3 c.args.minute)
