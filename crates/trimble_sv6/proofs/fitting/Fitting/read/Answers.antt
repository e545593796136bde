use Rattle.std.proofs.Common.{◌≡◌, true, sym, ◌∙◌}
use borrow.Author.Tests.{ne_eqb, eq-eqb}
use Rattle.trimble_sv6.specs.Sum.{sum_holds}
use Rattle.trimble_sv6.proofs.TrimbleLaws.{read_sum, read_invalid, read_right}
use Rattle.trimble_sv6.proofs.fitting.Fitting.read.Goals as goal

pub returns-then-not-right : goal.returns-then-not-right
returns-then-not-right c =
    sym (read_sum c.args.self.fits (sym c.sum_holds-right.ensures ∙ c.if-not-right.true))

pub returns-then-not-valid : goal.returns-then-not-valid
returns-then-not-valid c =
    let right_sum : sum_holds c.args.self.s.now ≡ true = cc in
    sym (read_invalid c.args.self.fits right_sum (ne_eqb _ _ c.if-not-valid.true))

pub returns : goal.returns
returns c =
    let right_sum : sum_holds c.args.self.s.now ≡ true = cc in
    c.read_clock.ensures
    ∙ sym (read_right c.args.self.fits right_sum (eq-eqb _ _ c.if-not-valid.false))
