-- It is the layout's own test, eight places at once, and the string is long enough for each.
use mathlib.Core.Bool.{true}
use mathlib.Core.List.{[], ◌∷◌}
use Rattle.clock_time.specs.Lists.{ascii}
use Rattle.layout.specs.Layout.{sample_place, allowed, fits_from}
use Rattle.layout_words.specs.Words.{enough, sample_fits}
use Rattle.layout.proofs.PartLaws.{parts_fit_lem}
use Rattle.elv_dcf7000.specs.Elv.{elv_layout, elv}
use Rattle.elv_dcf7000.proofs.fits.Goals as goal

pub returns : goal.returns
unfolding fits_from allowed ascii elv elv_layout enough sample_place sample_fits
returns c =
    rw (c.eight_fit-3.ensures, c.eight_fit-2.ensures, c.eight_fit.ensures, c.told-s)
    (parts_fit_lem (8 ∷ 8 ∷ 5 ∷ []) true 0 elv_layout c.args.s.now)
