-- Laws of reading a GPS string that fits its layout.
use Prim.Native.Nat.{ℕ}
use mathlib.Core.Path.{◌≡◌, refl, ◌∙◌}
use mathlib.Core.Bool.{Bool, true, false, cond}
use mathlib.Core.List.{List}
use Rattle.clock_time.specs.Errors.{Answer, accepted, refused, checked}
use Rattle.clock_time.specs.declared.ClockTime.{ClockTime}
use Rattle.clock_time.specs.declared.Position.{Position}
use Rattle.clock_time.proofs.ErrorLaws.{checked_map}
use Rattle.layout.specs.Layout.{FitsLayout}
use Rattle.layout.specs.Text.{supported_day, clock_checks}
use Rattle.layout.proofs.TextLaws.{later_checks, read_fitting}
use Rattle.meinberg_gps_position.specs.Position.{position_fault, position_of, read_position}
use Rattle.meinberg_gps.specs.Gps.{gps_layout, offset_fault, leap_mismatch, clock_of, read_clock}
use Rattle.meinberg_gps.specs.Gps.{gps_fields, gps, read_gps}
use Rattle.meinberg_gps.specs.declared.GpsTime.{GpsTime}

-- a clock time with a position
abbrev pub placed : Position → Answer ClockTime → Answer GpsTime
placed p (accepted t) = accepted (record { time = t; position = p })
placed p (refused k) = refused k

-- what the position read as is the answer, or else the clock time is left to check
abbrev pub after_position : List ℕ → Answer Position → Answer GpsTime
after_position s (accepted p) = read_clock s p
after_position s (refused k) = refused k

pub read_clock_lem : (s : List ℕ) (p : Position) {t : ClockTime} {m : Bool} {r : Answer ClockTime} → t ≡ clock_of s
    → m ≡ leap_mismatch s → r ≡ checked (clock_checks (supported_day t) t m) t → placed p r ≡ read_clock s p
read_clock_lem s p e f h =
    rw (h, e, f)
    (checked_map (placed p) (λ t. record { time = t; position = p }) (λ t. refl) (λ k. refl)
    (clock_checks (supported_day (clock_of s)) (clock_of s) (leap_mismatch s)) (clock_of s))

module _ {s : List ℕ} (fit : FitsLayout gps_layout s) where
  read_fits : read_gps s ≡ checked (later_checks gps s) (gps_fields s)
  unfolding read_gps gps
  read_fits = read_fitting gps s fit

  pub read_offset : offset_fault s ≡ true → read_gps s ≡ refused 8
  unfolding gps
  read_offset h = read_fits ∙ rw h

  pub read_placed : offset_fault s ≡ false → read_gps s ≡ after_position s (read_position s)
  unfolding gps read_position gps_fields
  read_placed h = read_fits ∙ rw h (go (position_fault s))
    where
      go : (t : Bool) → cond t (refused 9) (checked
          (clock_checks (supported_day (clock_of s)) (clock_of s) (leap_mismatch s)) (gps_fields s))
          ≡ after_position s (cond t (refused 9) (accepted (position_of s)))
      go true = refl
      go false = refl
