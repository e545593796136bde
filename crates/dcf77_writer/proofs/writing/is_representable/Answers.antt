use borrow.Author.Rules.{sfits_of}
use mir.Syntax.{w16}
use mir.Val.{SFits}
use Rattle.clock_time.proofs.SameLaws.{eq_bits}
use Rattle.dcf77.specs.Writable.{minute_representable}
use Rattle.dcf77_writer.proofs.writing.is_representable.Goals as goal

pub returns-then-are_fields_representable-t : goal.returns-then-are_fields_representable-t
unfolding minute_representable
returns-then-are_fields_representable-t c =
    let f : SFits w16 c.args.a.time.utc_offset = search sfits_of in
    let g : SFits w16 c.cet_offset.result = search sfits_of in
    let h = rw (eq_bits w16 f g, c.cet_offset.ensures, c.are_fields_representable.ensures)
    at c.if-are_fields_representable-t.true in
    rw h c.is_representable.ensures

pub returns : goal.returns
unfolding minute_representable
returns c =
    let f : SFits w16 c.args.a.time.utc_offset = search sfits_of in
    let g : SFits w16 c.cet_offset.result = search sfits_of in
    let h = rw (eq_bits w16 f g, c.cet_offset.ensures, c.are_fields_representable.ensures)
    at c.if-are_fields_representable-t.false in
    simp h
