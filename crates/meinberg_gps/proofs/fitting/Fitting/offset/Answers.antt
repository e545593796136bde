use native.Mathlib.Omega.{arith}
use Prim.Native.Nat.{◌^◌, ◌<◌}
use lib.Dec.{eqb}
use lib.ListN.{get_or}
use mir.Syntax.{w16, w64}
use mir.Val.{SFits}
use mir.Facts.{to_z-of_z}
use borrow.Author.Rules.{sfits_of}
use Rattle.meinberg_gps.specs.Gps.{offset_of}
use Rattle.signed.proofs.SignedLaws.{signed_fits}
use Rattle.meinberg_gps.proofs.OffsetLaws.{offset_small}
use Rattle.meinberg_gps.proofs.fitting.Fitting.offset.Goals as goal

-- four digits give a number that fits
held : (c : goal.After-with_sign) → SFits w16 c.with_sign.result
held c =
    let n = c.offset_magnitude.result in
    let small : n < 2 ^ 15 = omega (arith, offset_small c.args.self.fits, c.offset_magnitude.ensures) in
    rw c.with_sign.ensures (signed_fits w16 (eqb (get_or c.args.self.s.now 24 0) 45) n small)

pub overflow_cast-result : goal.overflow_cast-result
overflow_cast-result c = let f : SFits w64 c.with_sign.result = search sfits_of in rw (to_z-of_z f) (held c)

pub returns : goal.returns
unfolding offset_of
returns c =
    let f : SFits w64 c.with_sign.result = search sfits_of in
    rw (to_z-of_z f, to_z-of_z (held c), c.with_sign.ensures, c.offset_magnitude.ensures)
