use borrow.Author.Rules.{sfits_of}
use mir.Syntax.{w16}
use mir.Val.{SFits}
use mir.Facts.{to_z-of_z}
use Rattle.clock_time.proofs.SameLaws.{eq_bits}
use Rattle.meinberg_standard.specs.Standard.{standard_representable}
use Rattle.meinberg_standard_writer.proofs.is_representable.Goals as goal

pub returns : goal.returns
unfolding standard_representable
returns c =
    let offset_fits : SFits w16 c.args.t.utc_offset = search sfits_of in
    let zone_fits : SFits w16 c.zone_offset-zone.result = search sfits_of in
    rw (eq_bits w16 zone_fits offset_fits)
    (simp (c.zone_offset-zone.ensures, c.zone_letter.ensures, to_z-of_z offset_fits))
