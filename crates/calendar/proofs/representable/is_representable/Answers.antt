use Rattle.calendar.specs.Representable.{is_representable}
use Rattle.calendar.proofs.representable.is_representable.Goals as goal

pub returns : goal.returns
unfolding is_representable
returns c = c.is_reading.ensures
