use native.Mathlib.Omega.{arith}
use mathlib.Core.Path.{sym}
use lib.Seq.{length-take-le}
use Rattle.c_feed.specs.Feed.{framer_in}
use Rattle.c_feed.proofs.load.Goals as goal

pub copy_from_slice-requires : goal.copy_from_slice-requires
copy_from_slice-requires c = sym (length-take-le 66 c.args.state.now (omega arith))

pub overflow_cast-count : goal.overflow_cast-count
overflow_cast-count c = record { fits = omega (arith, c.type_inv.state 66) }

pub returns : goal.returns
unfolding framer_in
returns c =
    rw (c.copy_from_slice.ensures.after, c.mode_of-mode.ensures)

pub slice_bounds-copy_from_slice-end-2 : goal.slice_bounds-copy_from_slice-end-2
slice_bounds-copy_from_slice-end-2 c = sym (length-take-le 66 c.args.state.now (omega arith))
