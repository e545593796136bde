use mir.Facts.{to_z-of_z}
use Rattle.calendar.proofs.SignedLaws.{offset_range}
use Rattle.calendar.proofs.unix_time.offset_in_range.Goals as goal

pub returns : goal.returns
returns c = rw (to_z-of_z c.ranges.offset) (offset_range c.args.offset)
