use mathlib.Core.Bool.{and-true}
use borrow.Author.Rules.{rules}
use Rattle.clock_time.proofs.ListsLaws.{slice_known}
use Rattle.meinberg_gps_position.specs.Aligned.{are_digits}
use Rattle.meinberg_gps_position.proofs.digits.are_digits.Goals as goal

pub returns : goal.returns
unfolding are_digits
returns c =
    rw (slice_known 4 c.args.bytes (search rules))
    (simp (and-true, c.is_digit.ensures, c.is_digit-2.ensures, c.is_digit-3.ensures, c.is_digit-4.ensures))
