use borrow.Author.Rules.{rules}
use Rattle.clock_time.proofs.ListsLaws.{slice_known}
use Rattle.meinberg_gps_position.proofs.AlignedLaws.{aligned_blank}
use Rattle.meinberg_gps_position.proofs.angle.AngleDigits.stand.Goals as goal

pub returns : goal.returns
returns c =
    rw (slice_known 3 c.args.self.whole (search rules))
    (simp (c.are_aligned.ensures, c.are_digits.ensures, aligned_blank))
