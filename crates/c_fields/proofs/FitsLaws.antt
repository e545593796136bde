-- The numbers of a reading fit their ranges, and stand for that reading.
use Prim.Native.Nat.{ℕ, ◌≤◌}
use native.Mathlib.Omega.{arith}
use mathlib.Core.Path.{◌≡◌, refl, sym, ◌∙◌}
use mathlib.Core.Bool.{Bool, true, false}
use mathlib.Core.List.{List, [], ◌∷◌, ◌++◌}
use lib.IntN.{ℤ, pos}
use borrow.Author.Tests.{le-leb}
use Rattle.clock_time.specs.Errors.{accepted}
use Rattle.clock_time.specs.Same.{eq_ℤ}
use Rattle.clock_time.specs.declared.ClockTime.{ClockTime}
use Rattle.meinberg_gps.specs.declared.GpsTime.{GpsTime}
use Rattle.dcf77.specs.declared.MinuteTime.{MinuteTime}
use Rattle.c_numbers.specs.Numbers.{flag_number, time_numbers, gps_numbers, minute_numbers}
use Rattle.clock_time.specs.FieldRanges.{Range, up_to, i32_range, within, time_ranges, gps_ranges}
use Rattle.c_fields.specs.Ranges.{minute_ranges}
use Rattle.c_fields.specs.Ranges.{fits, is_set}
use Rattle.c_fields.specs.Ranges.{time_from, gps_from, minute_from, time_of, first_time_of, gps_of, minute_of}
use Rattle.clock_time.specs.FieldRanges.{FitsClockTime, FitsPosition}
use Rattle.c_fields.proofs.RangeLaws.{numbered_fit}

is_set_flag : (b : Bool) → is_set (flag_number b) ≡ b
unfolding eq_ℤ
is_set_flag true = refl
is_set_flag false = refl

-- ---- numbers in their ranges
up_within : (m n : ℕ) → n ≤ m → within (up_to m) (pos n) ≡ true
up_within m n h = simp (le-leb 0 n (omega arith), le-leb n m h)

flag_within : (on : Bool) → within (up_to 1) (flag_number on) ≡ true
flag_within true = refl
flag_within false = refl

-- the first 14 of some numbers
module _ (t : ClockTime) (h : FitsClockTime t) (z : List ℤ) where
  time_fits : (rs : List Range) → fits (time_ranges ++ rs) (time_numbers t ++ z) ≡ fits rs z
  unfolding time_ranges time_numbers fits
  time_fits rs =
      simp (
        up_within 65535 t.year h.year,
        up_within 255 t.month h.month,
        up_within 255 t.day h.day,
        up_within 255 t.weekday h.weekday,
        up_within 255 t.hour h.hour,
        up_within 255 t.minute h.minute,
        up_within 255 t.second h.second,
        h.offset,
        flag_within,
      )

  time_from_lem : time_from (time_numbers t ++ z) ≡ t
  unfolding time_from time_numbers
  time_from_lem = simp is_set_flag

  pub first_time_numbers : first_time_of (time_numbers t ++ z) ≡ accepted t
  unfolding time_ranges fits
  first_time_numbers = sym (numbered_fit (time_fits []) (sym time_from_lem))

-- ---- the numbers of a reading
pub time_numbers_lem : (t : ClockTime) → FitsClockTime t → time_of (time_numbers t) ≡ accepted t
unfolding time_ranges time_numbers fits
time_numbers_lem t h = sym (numbered_fit (time_fits t h [] []) (sym (time_from_lem t h [])))

pub gps_numbers_lem : (g : GpsTime) → FitsClockTime g.time → FitsPosition g.position
    → gps_of (gps_numbers g) ≡ accepted g
unfolding gps_from gps_numbers gps_ranges time_ranges time_numbers fits
gps_numbers_lem g h p =
    let x = g.position in
    let z = x.latitude ∷ x.longitude ∷ pos x.height ∷ [] in
    let rest : fits (i32_range ∷ i32_range ∷ up_to 65535 ∷ []) z ≡ true =
    simp (p.latitude, p.longitude, up_within 65535 x.height p.height) in
    sym
    (numbered_fit (time_fits g.time h z (i32_range ∷ i32_range ∷ up_to 65535 ∷ []) ∙ rest)
    (simp (time_from_lem g.time h z)))

pub minute_numbers_lem : (a : MinuteTime) → FitsClockTime a.time → a.detail.first_marks ≤ 65535
    → minute_of (minute_numbers a) ≡ accepted a
unfolding minute_from minute_numbers minute_ranges time_ranges time_numbers fits
minute_numbers_lem a h marks =
    let d = a.detail in
    let z = pos d.first_marks ∷ flag_number d.sixty ∷ [] in
    let rest : fits (up_to 65535 ∷ up_to 1 ∷ []) z ≡ true =
    simp (up_within 65535 d.first_marks marks, flag_within) in
    sym
    (numbered_fit (time_fits a.time h z (up_to 65535 ∷ up_to 1 ∷ []) ∙ rest)
    (simp (time_from_lem a.time h z, is_set_flag)))
