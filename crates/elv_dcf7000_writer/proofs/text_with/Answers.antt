use Rattle.clock_time.specs.Lists.{ascii}
use Rattle.decimal.specs.Decimal.{digits}
use Rattle.layout.specs.Text.{clock_digits}
use Rattle.elv_dcf7000_writer.proofs.text_with.Goals as goal

pub returns : goal.returns
unfolding digits ascii clock_digits
returns c = simp (c.from.ensures, c.two_digits.ensures, c.clock_digits-d.ensures)
