use mathlib.Core.Path.{◌≡◌, sym}
use mathlib.Core.Bool.{true, false}
use lib.ListN.{take}
use Rattle.std.proofs.Common.{rules, tests}
use Rattle.std.proofs.lemmas.List.{take_min}
use Rattle.framing.specs.Feed.{is_nothing}
use Rattle.framing.proofs.FeedLaws.{taken_more, taken_end, taken_step, taken_stop}
use Rattle.framing.proofs.Framer.feed.Goals as goal

pub returns-then-ne : goal.returns-then-ne
returns-then-ne c =
    let limited : take c.args.limit c.args.s.now ≡ take c.min.result c.args.s.now = simp (c.min.ensures, take_min) in
    let w = rw c.in-Some.ensures.cases.0 at c.loop-b.invariant in
    let loud : is_nothing c.advance-event.result ≡ false = search (rules, tests) in
    rw limited (sym (taken_stop _ _ _ _ _ w _ _ (sym c.advance-event.ensures) loud))

pub loop-b-preserved : goal.loop-b-preserved
loop-b-preserved c =
    let w = rw c.in-Some.ensures.cases.0 at c.loop-b.invariant in
    let quiet : is_nothing c.advance-event.result ≡ true = search (rules, tests) in
    taken_more _ _ _ _ (taken_step _ _ _ _ _ w _ _ (sym c.advance-event.ensures) quiet) _ _ c.pass-rest-in-Some.ensures

pub returns : goal.returns
returns c =
    let limited : take c.args.limit c.args.s.now ≡ take c.min.result c.args.s.now = simp (c.min.ensures, take_min) in
    rw limited (sym (taken_end _ _ _ _ c.loop-b.invariant c.in_default.ensures.cases))
