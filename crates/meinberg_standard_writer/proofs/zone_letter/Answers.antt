use mathlib.Core.Path.{sym, ◌∙◌}
use mir.Syntax.{w16}
use borrow.Author.Tests.{eq-eqb, ne_eqb}
use Rattle.clock_time.proofs.SameLaws.{zero_bits}
use Rattle.meinberg_standard.specs.Standard.{zone_letter}
use Rattle.meinberg_standard_writer.proofs.zone_letter.Goals as goal

pub returns-then-summer : goal.returns-then-summer
unfolding zone_letter
returns-then-summer c = simp c.if-summer.true

pub returns-then-offset-eq0 : goal.returns-then-offset-eq0
unfolding zone_letter
returns-then-offset-eq0 c =
    let zero = sym (zero_bits w16 c.ranges.offset) ∙ eq-eqb _ _ c.if-offset-eq0.true in
    rw (c.if-summer.false, zero)

pub returns : goal.returns
unfolding zone_letter
returns c =
    let other = sym (zero_bits w16 c.ranges.offset) ∙ ne_eqb _ _ c.if-offset-eq0.false in
    rw (c.if-summer.false, other)
