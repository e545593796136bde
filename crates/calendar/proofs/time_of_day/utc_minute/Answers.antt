-- The shifted difference is above zero and has the same remainder.
use native.Mathlib.Omega.{arith}
use Prim.Native.Nat.{ℕ, ◌+◌, ◌*◌, ◌≤◌, ◌<◌, ◌^◌}
use mathlib.Core.Path.{◌≡◌, ◌∙◌}
use lib.IntN.{ℤ, pos, ◌-ℤ◌}
use mir.Syntax.{w16, w32}
use mir.Val.{SFits, to_z, of_z}
use mir.Facts.{to_z-of_z, to_z_pos, sfits_widen}
use Rattle.clock_time.proofs.WidthLaws.{widened}
use Rattle.calendar.specs.TimeOfDay.{utc_minute}
use Rattle.calendar.proofs.SignedLaws.{difference_magnitude, shifted, Shifted}
use Rattle.calendar.proofs.time_of_day.utc_minute.Goals as goal

module _ (hour minute : ℕ) (offset : ℤ) (hour_fits : hour ≤ 255) (minute_fits : minute ≤ 255) (fits : SFits w16 offset)
  where
    sub_fits : SFits w32 (to_z w32 (60 * hour + minute + 33120)
        -ℤ to_z w32 (of_z w32 (to_z w16 (of_z w16 offset))))
    sub_fits =
        let local = 60 * hour + minute + 33120 in
        let h : local < 2 ^ 31 = omega arith in
        rw (to_z_pos w32 h, widened w32 tt fits)
        (record { sfits = difference_magnitude local offset (2 ^ 31) (omega (arith, fits.sfits)) })

    held : to_z w32 (of_z w32 (to_z w32 (60 * hour + minute + 33120) -ℤ to_z w32 (of_z w32 (to_z w16 (of_z w16
        offset))))) ≡ pos (60 * hour + minute + 33120) -ℤ offset
    held =
        let h : 60 * hour + minute + 33120 < 2 ^ 31 = omega arith in
        to_z-of_z sub_fits ∙ rw (to_z_pos w32 h, widened w32 tt fits)

    above : Shifted (60 * hour + minute) offset
    above = shifted (60 * hour + minute) offset fits.sfits

pub overflow_cast-shifted-2 : goal.overflow_cast-shifted-2
overflow_cast-shifted-2 c = rw (to_z-of_z c.ranges.offset) (sfits_widen tt c.ranges.offset)

pub overflow_sub-shifted : goal.overflow_sub-shifted
overflow_sub-shifted c =
    sub_fits c.args.hour c.args.minute c.args.offset (omega arith) (omega arith) c.ranges.offset

pub overflow_cast-result : goal.overflow_cast-result
overflow_cast-result c =
    let h : c.args.hour ≤ 255 = omega arith in
    let m : c.args.minute ≤ 255 = omega arith in
    let a = above c.args.hour c.args.minute c.args.offset h m c.ranges.offset in
    rw (held c.args.hour c.args.minute c.args.offset h m c.ranges.offset) (a.above, omega (arith, a.small))

pub returns : goal.returns
unfolding utc_minute
returns c =
    let h : c.args.hour ≤ 255 = omega arith in
    let m : c.args.minute ≤ 255 = omega arith in
    rw (held c.args.hour c.args.minute c.args.offset h m c.ranges.offset)
    (above c.args.hour c.args.minute c.args.offset h m c.ranges.offset).same
