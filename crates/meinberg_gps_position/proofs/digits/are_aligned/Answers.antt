use mathlib.Core.Bool.{and-true}
use borrow.Author.Rules.{rules}
use Rattle.clock_time.proofs.ListsLaws.{slice_known}
use Rattle.meinberg_gps_position.specs.Aligned.{are_digits, right_aligned}
use Rattle.meinberg_gps_position.proofs.digits.are_aligned.Goals as goal

pub returns : goal.returns
unfolding are_digits right_aligned
returns c =
    rw (slice_known 4 c.args.bytes (search rules))
    (simp and-true (cc))
