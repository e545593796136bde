use Rattle.std.proofs.Common.{rules, tests, eqb, ◌||◌, ◌∙◌, ap, length}
use Rattle.std.specs.Option.{unwrap_or}
use Rattle.std.proofs.lemmas.Iterator.{YieldsList-from_slice}
use Rattle.std.proofs.lemmas.Iterator.Search.{position_from_yields_List}
use Rattle.framing.proofs.PlainLaws.{unwrap_place}
use Rattle.framing.proofs.runs.before.Goals as goal

pub returns-clause-before : goal.returns-clause-before
returns-clause-before c =
    let s = c.args.s.now in
    let e =
    position_from_yields_List (λ b. eqb b 2 || eqb b c.args.last) _ _ c.position.result c.position.ensures.ran
    (YieldsList-from_slice s c.iter.ensures.rest) (λ x b q k. search (rules, tests)) in
    c.unwrap_or.ensures ∙ ap (λ r. unwrap_or r (length s)) e ∙ unwrap_place (λ b. eqb b 2 || eqb b c.args.last) s
