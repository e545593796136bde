use mathlib.Core.Path.{◌∙◌}
use Rattle.dcf77.proofs.SpellLaws.{spells_pad}
use Rattle.dcf77_writer.proofs.writing.sixty_marks.Goals as goal

pub returns : goal.returns
returns c = c.put_bits.ensures ∙ spells_pad c.spell_run.ensures
