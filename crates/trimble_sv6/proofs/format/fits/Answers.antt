-- It is the layout's own test, eight places at once, and the string is long enough for each.
use Rattle.std.proofs.Common.{true, [], ◌∷◌}
use Rattle.clock_time.specs.Lists.{ascii}
use Rattle.layout.specs.Layout.{sample_place, allowed, fits_from}
use Rattle.layout.proofs.PartLaws.{parts_fit_lem}
use Rattle.layout_words.specs.Words.{enough, sample_fits}
use Rattle.trimble_sv6.specs.Trimble.{trimble_layout, trimble}
use Rattle.trimble_sv6.proofs.format.fits.Goals as goal

pub returns : goal.returns
unfolding fits_from allowed ascii trimble trimble_layout enough sample_place sample_fits
returns c =
    rw (
      c.end_fits.ensures,
      c.tail_fits.ensures,
      c.eight_fit-3.ensures,
      c.eight_fit-2.ensures,
      c.eight_fit.ensures,
      c.told-s,
    )
    (parts_fit_lem (8 ∷ 8 ∷ 8 ∷ 8 ∷ 5 ∷ []) true 0 trimble_layout c.args.s.now)
