-- It is the layout's own test, place by place.
use Rattle.std.proofs.Common.{true, [], ◌∷◌}
use Rattle.layout.specs.Layout.{free, allowed, fits_from}
use Rattle.layout.proofs.PartLaws.{settled_fit_lem}
use Rattle.trimble_sv6.proofs.format.end_fits.Goals as goal

pub returns : goal.returns
unfolding fits_from allowed
returns c = settled_fit_lem true 32 (59 ∷ 42 ∷ free ∷ free ∷ 60 ∷ []) c.args.s.now
