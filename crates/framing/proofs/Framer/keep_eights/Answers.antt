use native.Mathlib.Omega.{arith}
use mathlib.Core.Path.{◌≡◌}
use mathlib.Core.List.{append_assoc}
use Prim.Native.Nat.{◌+◌, ◌-◌, ◌≤◌}
use lib.ListN.{length, take}
use lib.Seq.{drop-drop}
use Rattle.std.proofs.Common.{rules}
use Rattle.framing.specs.Run.{before}
use Rattle.framing.proofs.FeedLaws.{taken_none, taken_more}
use Rattle.framing.proofs.PlainLaws.{before_take, taken_kept}
use Rattle.framing.proofs.Framer.keep_eights.Goals as goal

pub loop-eight-init : goal.loop-eight-init
loop-eight-init c = (taken_none _ _, (c.requires.inside, c.requires.few))

pub loop-eight-preserved : goal.loop-eight-preserved
loop-eight-preserved c =
    let f = c.loop-eight.self in
    let s = c.loop-eight.rest.now in
    let inside = c.loop-eight.invariant.1.0 in
    let room : f.count + 8 ≤ 66 = omega (arith, c.if-self-lt8.false, c.loop-eight.invariant.1.1) in
    let size : length f.bytes ≡ 66 = search rules in
    let split = c.in-Some.ensures.cases in
    let eight : before 3 (take 8 s) ≡ 8 = rw split.0 at (c.are_plain.ensures c.if-not-are_plain.false) in
    let plain : 8 ≤ before 3 s = omega (arith, eight, before_take 3 8 s) in
    let same : f.count + 8 - f.count ≡ 8 = omega arith in
    let kept = taken_kept f s 8 inside plain room size in (
      taken_more _ _ _ s c.loop-eight.invariant.0 _ _
          (rw (c.copy_from_slice.ensures.after, split.0, split.1, same, drop-drop, ← append_assoc) kept),
      (inside, room),
    )
