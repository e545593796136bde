use mir.Syntax.{w32}
use Rattle.clock_time.specs.Lists.{ascii}
use Rattle.clock_time.proofs.WidthLaws.{widened}
use Rattle.decimal.specs.Decimal.{digits}
use Rattle.signed.specs.Offset.{offset_text}
use Rattle.signed.proofs.offset.offset_text.Goals as goal

pub returns : goal.returns
unfolding offset_text digits ascii
returns c =
    simp (
      c.sign_byte-sign.ensures,
      c.two_digits-2.ensures,
      c.two_digits.ensures,
      c.magnitude-magnitude.ensures,
      c.from-2.ensures,
      c.from.ensures,
      widened w32 tt c.ranges.offset,
    )
