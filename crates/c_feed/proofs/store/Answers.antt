use Rattle.std.proofs.Common.{◌≡◌, ◌∙◌, length, sym, arith, rules}
use Rattle.std.proofs.Math.Seq.{length-take-le}
use Rattle.c_feed.proofs.FeedLaws.{store_after}
use Rattle.c_feed.proofs.store.Goals as goal

pub slice_bounds-copy_from_slice-end-2 : goal.slice_bounds-copy_from_slice-end-2
slice_bounds-copy_from_slice-end-2 c = sym (length-take-le 66 c.args.state.now (omega arith))

pub copy_from_slice-requires : goal.copy_from_slice-requires
copy_from_slice-requires c =
    let long : length c.args.framer.bytes ≡ 66 = search rules in
    length-take-le 66 c.args.state.now (omega arith) ∙ sym long

pub returns : goal.returns
returns c =
    let long : length c.args.framer.bytes ≡ 66 = search rules in
    rw (c.copy_from_slice.ensures.after, c.mode_number.ensures)
    (store_after c.args.framer c.args.state.now _ long (omega arith) (rw long))
