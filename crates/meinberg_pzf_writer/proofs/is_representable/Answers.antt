use borrow.Author.Rules.{sfits_of}
use mir.Syntax.{w16}
use mir.Val.{SFits}
use Rattle.clock_time.proofs.SameLaws.{eq_bits, zero_bits}
use Rattle.meinberg_pzf.specs.Pzf.{pzf_representable}
use Rattle.meinberg_pzf_writer.proofs.is_representable.Goals as goal

pub returns : goal.returns
unfolding pzf_representable
returns c =
    let offset_fits : SFits w16 c.args.t.utc_offset = search sfits_of in
    let said_fits : SFits w16 c.offset_of.result = search sfits_of in
    rw (eq_bits w16 said_fits offset_fits) (simp (c.offset_of.ensures, zero_bits w16 offset_fits))
