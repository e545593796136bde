-- A GPS string that is accepted is the text of its fields.
use Prim.Native.Nat.{ℕ}
use Prim.Native.Char.{code}
use mathlib.Core.Path.{◌≡◌, refl}
use mathlib.Core.Bool.{Bool, true, false, not, beq, true≢false}
use mathlib.Core.List.{List, ◌∷◌, ◌++◌}
use lib.Dec.{eqb}
use lib.ListN.{get_or}
use lib.IntN.{pos}
use Rattle.clock_time.specs.Same.{eq_ℤ, same_time, same_position}
use Rattle.clock_time.proofs.SameLaws.{same_time_refl, same_time_true, same_position_refl, same_position_true}
use Rattle.clock_time.proofs.Tests.{both}
use Rattle.clock_time.specs.Lists.{ascii, slice}
use Rattle.layout.specs.Layout.{allowed, FitsLayout, number, has}
use Rattle.layout.specs.Text.{letter}
use Rattle.layout.proofs.AcceptLaws.{PassesText}
use Rattle.layout.proofs.WriteLaws.{restore_fits, digits_number, digits_year, letter_has}
use Rattle.meinberg_gps_position.proofs.PositionReadLaws.{text_position}
use Rattle.meinberg_pzf.specs.Pzf.{pzf_text}
use Rattle.meinberg_gps.specs.Gps.{gps_layout, offset_of, leap_mismatch, clock_of, gps_fields, text_with, gps_text}
use Rattle.meinberg_gps.specs.Gps.{same_gps, gps}
use Rattle.meinberg_gps.specs.declared.GpsTime.{GpsTime}
use Rattle.meinberg_gps.proofs.OffsetLaws.{text_offset}

-- the PZF string with the date, the time and the flags of a GPS string
abbrev pzf_at : List ℕ → List ℕ
pzf_at s =
    ascii "\u{2}" ++ slice 1 2 s ++ ascii "." ++ slice 4 2 s ++ ascii "." ++ slice 7 2 s
    ++ ascii "; " ++ slice 11 1 s
    ++ ascii "; " ++ slice 14 2 s ++ ascii ":" ++ slice 17 2 s ++ ascii ":" ++ slice 20 2 s
    ++ ascii "; " ++ (letter (eq_ℤ (offset_of s) (pos 0)) "U" ∷ slice 32 6 s ++ ascii "\u{3}")

text_clock : {s : List ℕ} → FitsLayout gps_layout s → pzf_text (clock_of s) ≡ pzf_at s
unfolding pzf_text clock_of gps_layout ascii allowed
text_clock h = simp (digits_number h 2, digits_number h 1, digits_year h, letter_has h)

pub agree : (a b : Bool) → not (beq a b) ≡ false → a ≡ b
agree true true h = refl
agree true false h = absurd (true≢false h)
agree false true h = absurd (true≢false h)
agree false false h = refl

letter_leap : {s : List ℕ} → FitsLayout gps_layout s → leap_mismatch s ≡ false
    → letter (eqb (number 2 20 s) 60) "L" ≡ get_or s 38 0
unfolding leap_mismatch gps_layout ascii allowed
letter_leap {s} fit h =
    rw (← (agree (has "L" 38 s) (eqb (number 2 20 s) 60) h)) (letter_has fit 38 (code "L") refl)

pub text_fields : (s : List ℕ) → PassesText gps s → gps_text (gps_fields s) ≡ s
unfolding gps_text text_with gps_fields gps clock_of gps_layout ascii
text_fields s r =
    let fit = r.clock.fits in
    rw (
      text_clock fit,
      text_offset fit r.own.0,
      letter_leap fit r.agrees,
      text_position s r.own.1.0,
    )
    (restore_fits fit)

-- ---- sameness
pub same_gps_refl : (a : GpsTime) → same_gps a a ≡ true
unfolding same_gps
same_gps_refl a = simp (same_time_refl, same_position_refl)

pub same_gps_true : (a b : GpsTime) → same_gps a b ≡ true → a ≡ b
unfolding same_gps
same_gps_true a b h =
    let w = both (same_time a.time b.time) (same_position a.position b.position) h in
    λ i.
    record {
      time = same_time_true a.time b.time w.0 i;
      position = same_position_true a.position b.position w.1 i;
    }
