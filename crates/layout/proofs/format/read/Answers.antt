-- The rule of every format, whatever the format: the pattern is as long as its layout.
use mathlib.Core.Path.{◌≡◌, refl, ◌∙◌}
use native.Mathlib.Omega.{arith}
use lib.ListN.{length}
use Rattle.layout.proofs.LayoutLaws.{length_patterned}
use Rattle.layout.proofs.TextLaws.{read_length, read_misfit}
use Rattle.layout.proofs.format.read.Goals as goal
use Rattle.layout.proofs.format.read.Goals.{in-Some+in_default-read_if_fits, in_default}

pub returns : goal.returns
returns g c =
    let layout : length g.F.StringFormat.format.layout ≡ g.row.N =
    rw (← c.pattern.ensures, length_patterned) (omega arith) in
    let format = g.F.StringFormat.format in
    let error = rw c.pattern.ensures at c.layout_error.ensures in
    elim c.match-as_array.branch [
      | in-Some+in_default-read_if_fits w ↦
          let misfit = w.in_default-read_if_fits.ensures.fits in
          read_misfit format _ error (rw w.in-Some.ensures.cases.same at misfit) refl
      | in_default w ↦ read_length format _ error (λ long. w.in_default.ensures.cases (long ∙ layout))
    ]
