use mir.Facts.{to_z-of_z}
use Rattle.clock_time.specs.Lists.{ascii}
use Rattle.decimal.specs.Decimal.{digits}
use Rattle.meinberg_gps_position.specs.Aligned.{padded, aligned}
use Rattle.meinberg_gps_position.specs.Position.{angle_bytes}
use Rattle.meinberg_gps_position.proofs.angle.Hemispheres.text.Goals as goal

pub returns : goal.returns
unfolding angle_bytes aligned padded ascii digits
returns c =
    let f = c.ranges.angle in
    let magnitude = rw (to_z-of_z f) at c.magnitude-magnitude.ensures in
    let letter = rw (to_z-of_z f) at c.sign_byte-letter.ensures in
    simp (letter, c.decimals.ensures, c.aligned_text.ensures, magnitude)
