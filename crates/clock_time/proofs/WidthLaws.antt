-- A number of 16 bits that is widened stays as it is.
use mathlib.Core.Path.{◌≡◌}
use lib.Dec.{T, leb}
use lib.IntN.{ℤ}
use mir.Syntax.{Width, w16}
use mir.Val.{SFits, to_z, of_z, hbits}
use mir.Facts.{to_z-of_z, sfits_widen}

pub widened : (w : Width) → T (leb 15 (hbits w)) → {z : ℤ} → SFits w16 z → to_z w (of_z w (to_z w16 (of_z w16 z))) ≡ z
widened w t f = rw (to_z-of_z f) (to_z-of_z (sfits_widen t f))
