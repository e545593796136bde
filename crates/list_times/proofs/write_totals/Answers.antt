use Rattle.std.proofs.Common.{sym}
use lib.Seq.{length-take-le}
use Rattle.listing_lines.specs.Totals.{write_totals}
use Rattle.list_times.proofs.ProgressLaws.{written_fits, written_text}
use Rattle.list_times.proofs.write_totals.Goals as goal

pub slice_bounds-text-end : goal.slice_bounds-text-end
unfolding write_totals
slice_bounds-text-end c = written_fits _ _ _ _ (rw c.in-Ok.is at c.write_totals.ensures)

pub slice_bounds-write_last-end : goal.slice_bounds-write_last-end
unfolding write_totals
slice_bounds-write_last-end c =
    sym (length-take-le _ _ (written_fits _ _ _ _ (rw c.in-Ok.is at c.write_totals.ensures)))

pub write_last-requires : goal.write_last-requires
unfolding write_totals
write_last-requires c = written_text _ _ _ _ (rw c.in-Ok.is at c.write_totals.ensures)
