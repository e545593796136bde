use borrow.Author.Rules.{sfits_of}
use native.Mathlib.Omega.{arith}
use Prim.Native.Nat.{◌^◌, ◌<◌}
use lib.Dec.{eqb}
use mir.Syntax.{w32, w64}
use mir.Val.{SFits}
use mir.Facts.{to_z-of_z}
use Rattle.signed.proofs.SignedLaws.{signed_fits, sign_limit}
use Rattle.meinberg_gps_position.proofs.angle.Hemispheres.signed.Goals as goal

-- a magnitude within the limit fits
held : (c : goal.After-with_sign) → SFits w32 c.with_sign.result
held c =
    let a = c.args.angle in
    let h = c.args.self in
    let most = sign_limit h.above h.below h.limit a.letter a.magnitude cc in
    let small : a.magnitude < 2 ^ 31 = omega (arith, most, c.requires) in
    rw c.with_sign.ensures (signed_fits w32 (eqb a.letter h.below) a.magnitude small)

pub overflow_cast-result : goal.overflow_cast-result
overflow_cast-result c = let f : SFits w64 c.with_sign.result = search sfits_of in rw (to_z-of_z f) (held c)

pub returns-clause-value : goal.returns-clause-value
returns-clause-value c =
    let f : SFits w64 c.with_sign.result = search sfits_of in
    rw (to_z-of_z f, to_z-of_z (held c), c.with_sign.ensures)
