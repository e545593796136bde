use borrow.Author.Rules.{sfits_of}
use lib.Dec.{lit≤}
use mir.Syntax.{w32}
use mir.Val.{SFits}
use mir.Facts.{to_z-of_z}
use Rattle.clock_time.specs.Lists.{ascii}
use Rattle.decimal.specs.Decimal.{digits}
use Rattle.meinberg_gps_position.specs.Aligned.{padded, aligned}
use Rattle.meinberg_gps_position.specs.Position.{angle_bytes, position_text}
use Rattle.meinberg_gps_position.proofs.position_text.Goals as goal

-- the parts that are copied keep their lengths
pub slice_bounds-bytes-end-3 : goal.slice_bounds-bytes-end-3
unfolding angle_bytes aligned padded ascii digits
slice_bounds-bytes-end-3 c =
    rw (
      c.copy_from_slice-2.ensures.after,
      c.copy_from_slice.ensures.after,
      c.text-longitude.ensures,
      c.text-latitude.ensures,
    )
    (lit≤ tt)

pub returns : goal.returns
unfolding position_text angle_bytes aligned padded ascii digits
returns c =
    let latitude : SFits w32 c.args.p.latitude = search sfits_of in
    let longitude : SFits w32 c.args.p.longitude = search sfits_of in
    rw (
      c.copy_from_slice-3.ensures.after,
      c.copy_from_slice-2.ensures.after,
      c.copy_from_slice.ensures.after,
      c.text-longitude.ensures,
      c.text-latitude.ensures,
      c.aligned_text-height.ensures,
      to_z-of_z latitude,
      to_z-of_z longitude,
    )
