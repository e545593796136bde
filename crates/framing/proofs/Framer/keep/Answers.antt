use native.Mathlib.Omega.{arith}
use mathlib.Core.Path.{refl, sym}
use Prim.Native.Nat.{◌<◌}
use Rattle.framing.proofs.FeedLaws.{taken_step}
use Rattle.framing.proofs.StepLaws.{step_keeps}
use Rattle.framing.proofs.Framer.keep.Goals as goal

pub loop-b-preserved : goal.loop-b-preserved
loop-b-preserved c =
    let f = c.loop-b.self in
    let inside = c.loop-b.invariant.1.0 in
    let room : f.count < 66 = omega (arith, c.loop-b.invariant.1.1, c.if-self-eq-ROOM.false) in
    let w = rw c.in-Some.ensures.cases.0 at c.loop-b.invariant.0 in
    let step = rw (sym inside) at (step_keeps f.bytes f.count c.in-Some.b.now room c.if-b.false) in
    (taken_step _ _ _ _ _ w _ _ step refl, (inside, omega (arith, room)))
