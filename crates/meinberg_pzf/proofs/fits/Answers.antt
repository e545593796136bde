-- It is the layout's own test, eight places at once, and the string is long enough for each.
use mathlib.Core.Bool.{true}
use mathlib.Core.List.{[], ◌∷◌}
use Rattle.clock_time.specs.Lists.{ascii}
use Rattle.layout.specs.Layout.{sample_place, fits_from}
use Rattle.layout_words.specs.Words.{enough, sample_fits, flags_fit}
use Rattle.layout.proofs.PartLaws.{parts_fit_lem}
use Rattle.meinberg_pzf.specs.Pzf.{pzf_layout, pzf}
use Rattle.meinberg_pzf.proofs.fits.Goals as goal

pub returns : goal.returns
unfolding fits_from ascii pzf pzf_layout enough sample_place sample_fits flags_fit
returns c =
    rw (
      c.flags_fit.ensures,
      c.eight_fit-3.ensures,
      c.eight_fit-2.ensures,
      c.eight_fit.ensures,
      c.told-s,
    )
    (parts_fit_lem (8 ∷ 8 ∷ 8 ∷ 8 ∷ []) true 0 pzf_layout c.args.s.now)
