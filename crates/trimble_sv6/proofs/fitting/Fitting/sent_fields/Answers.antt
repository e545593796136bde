use Rattle.clock_time.specs.Lists.{ascii}
use Rattle.layout_words.proofs.PairLaws.{numbers_four}
use Rattle.trimble_sv6.specs.Trimble.{trimble_layout, sent_fields}
use Rattle.trimble_sv6.proofs.TrimbleLaws.{four_number}
use Rattle.trimble_sv6.proofs.fitting.Fitting.sent_fields.Goals as goal

pub returns : goal.returns
unfolding sent_fields trimble_layout ascii
returns c =
    simp (
      c.four_numbers_at-2.ensures,
      c.four_numbers_at.ensures,
      numbers_four c.args.self.fits,
      four_number c.args.self.s.now 17,
    )
