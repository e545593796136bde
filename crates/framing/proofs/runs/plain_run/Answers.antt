-- The first eights are plain, and the rest is counted one by one.
use native.Mathlib.Omega.{arith}
use mathlib.Core.Path.{◌≡◌}
use Prim.Native.Nat.{◌+◌, ◌*◌, ◌/◌, ◌≤◌}
use lib.ListN.{length, drop}
use Rattle.framing.specs.Run.{before}
use Rattle.framing.proofs.FeedLaws.{rest}
use Rattle.framing.proofs.PlainLaws.{eights_more, before_length}
use Rattle.framing.proofs.runs.plain_run.Goals as goal

counted : (c : goal.After-before-2) → 8 * c.plain_eights-n.result + c.before-2.result ≡ before 3 c.args.s.now
counted c =
    let s = c.args.s.now in
    let n = c.plain_eights-n.result in
    let tail : c.before-2.result ≡ before 3 (drop (8 * n) s) = rw rest at c.before-2.ensures.before in
    let plain = rw c.as_chunks.ensures.front at c.plain_eights-n.ensures.plain in
    let within : n ≤ length s / 8 = omega (arith, c.plain_eights-n.ensures.within, c.as_chunks.ensures.front_len) in
    let w = eights_more n (length s / 8) s within plain in
    omega (arith, tail, w)

pub overflow_add-result : goal.overflow_add-result
overflow_add-result c = omega (arith, counted c, before_length 3 c.args.s.now)

pub returns-clause-within : goal.returns-clause-within
returns-clause-within c = omega (arith, counted c, before_length 3 c.args.s.now)

pub returns-clause-before : goal.returns-clause-before
returns-clause-before c = counted c
