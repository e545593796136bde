-- Reading by kind is what the kind's own reader answers.
use mathlib.Core.Path.{◌≡◌}
use mathlib.Core.List.{List}
use Prim.Native.Nat.{ℕ}
use Rattle.meinberg_standard.specs.Standard.{read_standard}
use Rattle.meinberg_pzf.specs.Pzf.{read_pzf}
use Rattle.meinberg_gps.specs.Gps.{read_gps, written_gps}
use Rattle.elv_dcf7000.specs.Elv.{read_elv}
use Rattle.time_string.specs.Row.{without_position, with_position, shaped_answer}
use Rattle.time_string.specs.Kind.{read_as}
use Rattle.time_string.specs.declared.Kind.{Kind}
use Rattle.time_string.specs.declared.Kind.TheVariants.{Standard, Pzf, Gps, Elv}

pub as_standard : (kind : Kind) (s : List ℕ) → kind ≡ Standard
    → read_as kind s ≡ shaped_answer without_position (read_standard s)
unfolding read_as read_standard
as_standard kind s e = rw e

pub as_pzf : (kind : Kind) (s : List ℕ) → kind ≡ Pzf → read_as kind s ≡ shaped_answer without_position (read_pzf s)
unfolding read_as read_pzf
as_pzf kind s e = rw e

pub as_gps : (kind : Kind) (s : List ℕ) → kind ≡ Gps → read_as kind s ≡ shaped_answer with_position (read_gps s)
unfolding read_as read_gps written_gps
as_gps kind s e = rw e

pub as_elv : (kind : Kind) (s : List ℕ) → kind ≡ Elv → read_as kind s ≡ shaped_answer without_position (read_elv s)
unfolding read_as read_elv
as_elv kind s e = rw e

-- the four, for the reader's proof
pub ruleset by_kind = (as_standard, as_pzf, as_gps, as_elv)
