use mathlib.Core.Path.{◌≡◌, sym, ◌∙◌}
use Rattle.std.proofs.Common.{true, false}
use Rattle.layout.specs.Layout.{pattern_place, allowed}
use Rattle.layout.proofs.PlacesLaws.{same_error, offence_is}
use Rattle.layout.proofs.offends.Goals as goal

pub returns-then-allows : goal.returns-then-allows
returns-then-allows c =
    let p = pattern_place c.args.p in
    let allowed_there : allowed p c.args.b ≡ true =
    rw c.of-place.ensures at (sym c.allows.ensures ∙ c.if-allows.true) in
    rw allowed_there at (offence_is p c.args.b c.args.error)

pub returns : goal.returns
returns c =
    let p = pattern_place c.args.p in
    let not_there : allowed p c.args.b ≡ false =
    rw c.of-place.ensures at (sym c.allows.ensures ∙ c.if-allows.false) in
    let offends = rw not_there at (offence_is p c.args.b c.args.error) in
    c.eq.ensures ∙ same_error _ _ ∙ rw (c.error.ensures, c.of-place.ensures) offends
