use native.Mathlib.Omega.{arith}
use mathlib.Core.Path.{◌∙◌}
use Rattle.dcf77.proofs.MarkLaws.{eight_sure_lem, word_bytes}
use Rattle.dcf77.proofs.marks.eight_sure.Goals as goal

pub returns : goal.returns
returns c =
    let m = c.args.m.now in
    eight_sure_lem m (λ i. omega (arith, c.type_inv.m i)) c.args.at _ (c.from_le_bytes-bytes.ensures ∙ word_bytes m c.args.at)
