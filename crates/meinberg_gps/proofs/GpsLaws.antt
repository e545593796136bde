-- The writer of GPS strings may decide from the clock time and the position.
use Prim.Native.Nat.{ℕ}
use mathlib.Core.Path.{◌≡◌, refl}
use mathlib.Core.Bool.{Bool, true, false, ◌&&◌}
use mathlib.Core.List.{List}
use Rattle.signed.specs.Offset.{offset_text}
use Rattle.clock_time.specs.Writing.{Written, writing}
use Rattle.clock_time.proofs.SameLaws.{beq_refl}
use Rattle.clock_time.specs.Lists.{ascii}
use Rattle.calendar.specs.Representable.{is_representable}
use Rattle.calendar.proofs.RepresentableLaws.{represented}
use Rattle.decimal.specs.Decimal.{digits}
use Rattle.decimal.proofs.DecimalLaws.{digit_written}
use Rattle.layout.specs.Layout.{allowed, fits_from, FitsLayout}
use Rattle.layout.proofs.LayoutLaws.{tested_fits}
use Rattle.layout.proofs.DecideLaws.{letter_fits, letter_read, numbers_written, Decides}
use Rattle.layout.proofs.DecideLaws as text
use Rattle.meinberg_gps_position.specs.Aligned.{padded, aligned}
use Rattle.meinberg_gps_position.specs.Position.{angle_bytes, position_text, position_representable}
use Rattle.meinberg_gps_position.proofs.PositionLaws.{position_representable_lem}
use Rattle.meinberg_gps_position.proofs.PositionWrittenLaws.{PositionRead, position_read}
use Rattle.meinberg_pzf.specs.Pzf.{pzf_text}
use Rattle.meinberg_gps.specs.Gps.{gps_layout, leap_mismatch, clock_of, gps_fields, text_with, gps_text}
use Rattle.meinberg_gps.specs.Gps.{gps}
use Rattle.meinberg_gps.specs.Gps.{written_gps, write_gps}
use Rattle.meinberg_gps.specs.declared.GpsTime.{GpsTime}
use Rattle.meinberg_gps.proofs.OffsetLaws.{OffsetRead, offset_read, offset_in_range_lem}
use Rattle.meinberg_gps.proofs.FieldsLaws.{same_gps_refl, same_gps_true}

abbrev pub gps_representable : GpsTime → Bool
gps_representable g = position_representable g.position

text_fits : (g : GpsTime) → FitsLayout gps_layout (gps_text g)
unfolding
    gps_layout gps_text text_with pzf_text offset_text position_text angle_bytes aligned padded ascii digits fits_from allowed
text_fits g = tested_fits gps_layout (gps_text g) refl (simp (digit_written, letter_fits))

-- ---- the parts are read as they were written
module _ (g : GpsTime) (h : is_representable g.time ≡ true) where
  offset_part : OffsetRead g.time.utc_offset (gps_text g)
  unfolding gps_text text_with pzf_text offset_text ascii digits
  offset_part = offset_read g.time.utc_offset (represented g.time h).offset (gps_text g) refl

  clock_part : clock_of (gps_text g) ≡ g.time
  unfolding clock_of gps_text text_with pzf_text offset_text ascii digits
  clock_part = simp (numbers_written, offset_part.same, letter_read)

  leap_part : leap_mismatch (gps_text g) ≡ false
  unfolding leap_mismatch gps_text text_with pzf_text offset_text ascii digits
  leap_part = simp (numbers_written, letter_read, beq_refl)

position_part : (g : GpsTime) → gps_representable g ≡ true → PositionRead g.position (gps_text g)
unfolding gps_text text_with pzf_text offset_text position_text angle_bytes aligned padded ascii digits
position_part g k = position_read g.position k (gps_text g) refl

pub decides : Decides gps gps_text gps_representable
unfolding gps gps_fields clock_of
decides =
    record {
      supported = λ t. refl;
      offset = λ s r. offset_in_range_lem s r.own.0;
      read_representable = λ s r. position_representable_lem s r.own.1.0;
      fits = λ g h k. text_fits g;
      flags = λ g h k. refl;
      own = λ g h k. ((offset_part g h).faultless, ((position_part g k).faultless, tt));
      agrees = λ g h k. leap_part g h;
      says = λ g h k i. record { time = clock_part g h i; position = (position_part g k).same i };
    }

-- the writer's code does as its definition says
pub writes : (g : GpsTime) (buffer : List ℕ) {u v : Bool} {bytes : List ℕ} {o : Written}
    → o ≡ writing (u && v) bytes buffer → u ≡ is_representable g.time → v ≡ position_representable g.position
    → bytes ≡ gps_text g → o ≡ write_gps g buffer
unfolding write_gps written_gps gps
writes = text.writes written_gps gps_representable decides same_gps_refl same_gps_true
