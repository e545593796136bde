-- Writing by kind is what the kind's own writer leaves of the reading that the numbers are.
use Prim.Native.Nat.{ℕ}
use mathlib.Core.Path.{◌≡◌}
use mathlib.Core.List.{List}
use Rattle.std.specs.Prelude.{ℤ}
use Rattle.clock_time.specs.Called.{leaving}
use Rattle.meinberg_standard.specs.Standard.{write_standard}
use Rattle.meinberg_pzf.specs.Pzf.{write_pzf}
use Rattle.meinberg_gps.specs.Gps.{write_gps}
use Rattle.elv_dcf7000.specs.Elv.{write_elv}
use Rattle.time_string.specs.declared.Kind.{Kind}
use Rattle.time_string.specs.declared.Kind.TheVariants.{Standard, Pzf, Gps, Elv}
use Rattle.c_fields.specs.Ranges.{time_of, gps_of}
use Rattle.c_writer.specs.Writers.{write_as}

pub as_standard : (kind : Kind) (z : List ℤ) (buffer : List ℕ) → kind ≡ Standard
    → write_as kind z buffer ≡ leaving buffer (time_of z) (λ t. write_standard t buffer)
unfolding write_as write_standard
as_standard kind z buffer e = rw e

pub as_pzf : (kind : Kind) (z : List ℤ) (buffer : List ℕ) → kind ≡ Pzf
    → write_as kind z buffer ≡ leaving buffer (time_of z) (λ t. write_pzf t buffer)
unfolding write_as write_pzf
as_pzf kind z buffer e = rw e

pub as_gps : (kind : Kind) (z : List ℤ) (buffer : List ℕ) → kind ≡ Gps
    → write_as kind z buffer ≡ leaving buffer (gps_of z) (λ g. write_gps g buffer)
unfolding write_as write_gps
as_gps kind z buffer e = rw e

pub as_elv : (kind : Kind) (z : List ℤ) (buffer : List ℕ) → kind ≡ Elv
    → write_as kind z buffer ≡ leaving buffer (time_of z) (λ t. write_elv t buffer)
unfolding write_as write_elv
as_elv kind z buffer e = rw e

-- the four, for the writer's proof
pub ruleset by_kind = (as_standard, as_pzf, as_gps, as_elv)
