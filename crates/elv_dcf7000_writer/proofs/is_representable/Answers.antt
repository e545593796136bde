use native.Mathlib.Omega.{arith}
use borrow.Author.Rules.{sfits_of}
use mir.Syntax.{w16}
use mir.Val.{SFits}
use Rattle.clock_time.proofs.SameLaws.{eq_bits}
use Rattle.elv_dcf7000.specs.Elv.{elv_offset, elv_representable}
use Rattle.elv_dcf7000_writer.proofs.is_representable.Goals as goal

pub returns : goal.returns
unfolding elv_representable elv_offset
returns c =
    let offset : SFits w16 c.args.t.utc_offset = record { sfits = omega arith } in
    let said : SFits w16 c.cet_offset.result = search sfits_of in
    rw (eq_bits w16 said offset)
    (simp (c.weekday_or_zero-weekday.ensures, c.date.ensures, c.cet_offset.ensures))
