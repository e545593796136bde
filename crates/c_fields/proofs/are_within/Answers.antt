use borrow.Author.Rules.{rules, sfits_of}
use mathlib.Core.Path.{sym}
use mir.Syntax.{w32}
use mir.Val.{SFits}
use mir.Facts.{to_z-of_z}
use Rattle.std.proofs.lemmas.Slice.Zip.{Zip-more, either_empty_from_Zip}
use Rattle.c_fields.proofs.RangeLaws.{fits_short, left_first, left_more, left_none}
use Rattle.c_fields.proofs.are_within.Goals as goal

pub returns-then-z-places : goal.returns-then-z-places
returns-then-z-places c = sym (fits_short _ _ c.if-z-places.true)

pub loop-place-init : goal.loop-place-init
loop-place-init c =
    rw c.into_iter-place-iterator.ensures.into_iter_gives
    (left_first _ _ _ _ c.if-z-places.false (search rules) c.zip-place-items.ensures.second.0)

pub loop-place-preserved : goal.loop-place-preserved
loop-place-preserved c =
    let more =
    Zip-more c.loop-place.place-iterator c.next.new.self c.next.result _ c.in-Some.is c.next.ensures.steps in
    let fits : SFits w32 c.in-Some.x.now = search sfits_of in
    rw (c.holds-all.ensures, to_z-of_z fits) (left_more _ _ _ _ _ _ _ _ _ c.loop-place.invariant more.0 more.1)

pub returns : goal.returns
returns c =
    left_none _ _ _ _ _ c.loop-place.invariant
    (either_empty_from_Zip c.loop-place.place-iterator c.next.new.self c.next.result c.in-None.is c.next.ensures.steps)
