use mathlib.Core.Path.{◌≡◌, ◌∙◌}
use Prim.Native.Nat.{ℕ, ◌<◌}
use lib.ListN.{length, get_or}
use borrow.Author.Tests.{eqb-true}
use Rattle.std.proofs.Common.{rules}
use Rattle.bits.proofs.ByteLaws.{word_eight}
use Rattle.framing.proofs.PlainLaws.{eight_plain}
use Rattle.framing.proofs.runs.are_plain.Goals as goal

pub returns : goal.returns
returns c h =
    let f : (i : ℕ) → get_or c.args.s i 0 < 256 = λ i. search rules in
    let l : length c.args.s ≡ 8 = search rules in
    eight_plain c.args.s f _ l (c.join_eight-bytes.ensures ∙ word_eight c.args.s 0) (eqb-true _ _ h)
