use borrow.Author.Rules.{rules}
use lib.Dec.{lit≤}
use Rattle.clock_time.specs.Lists.{ascii}
use Rattle.clock_time.proofs.ListsLaws.{slice_known}
use Rattle.meinberg_gps.specs.Gps.{text_with}
use Rattle.meinberg_gps_writer.proofs.text.text_with.Goals as goal

-- the parts that are copied keep their lengths
pub slice_bounds-line-end-3 : goal.slice_bounds-line-end-3
slice_bounds-line-end-3 c =
    rw (
      c.copy_from_slice-2.ensures.after,
      c.copy_from_slice.ensures.after,
      slice_known 32 c.args.pzf (search rules),
      slice_known 6 c.args.offset (search rules),
    )
    (lit≤ tt)

pub slice_bounds-line-end-4 : goal.slice_bounds-line-end-4
slice_bounds-line-end-4 c =
    rw (
      c.copy_from_slice-3.ensures.after,
      c.copy_from_slice-2.ensures.after,
      c.copy_from_slice.ensures.after,
      slice_known 32 c.args.pzf (search rules),
      slice_known 6 c.args.offset (search rules),
    )
    (lit≤ tt)

pub returns : goal.returns
unfolding text_with ascii
returns c =
    rw (
      c.copy_from_slice-4.ensures.after,
      c.copy_from_slice-3.ensures.after,
      c.copy_from_slice-2.ensures.after,
      c.copy_from_slice.ensures.after,
      slice_known 32 c.args.pzf (search rules),
      slice_known 6 c.args.offset (search rules),
      slice_known 23 c.args.position (search rules),
    )
