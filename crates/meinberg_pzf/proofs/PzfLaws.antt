-- A PZF string that fits its layout is the text of its fields, and the writer may decide from the clock time.
use Prim.Native.Nat.{ℕ}
use mathlib.Core.Path.{◌≡◌, refl}
use mathlib.Core.Bool.{Bool, true, false}
use mathlib.Core.List.{List}
use lib.IntN.{pos}
use Rattle.clock_time.specs.Same.{eq_ℤ}
use Rattle.clock_time.specs.declared.ClockTime.{ClockTime}
use Rattle.clock_time.proofs.SameLaws.{eq_ℤ_refl, eq_ℤ_true}
use Rattle.clock_time.specs.Lists.{ascii}
use Rattle.calendar.specs.Representable.{is_representable}
use Rattle.calendar.proofs.ValidLaws.{zone_in_range}
use Rattle.decimal.specs.Decimal.{digits}
use Rattle.decimal.proofs.DecimalLaws.{digit_written}
use Rattle.layout.specs.Layout.{allowed, fits_from, FitsLayout, has}
use Rattle.layout.proofs.LayoutLaws.{tested_fits}
use Rattle.layout.proofs.DecideLaws.{letter_fits, letter_read, numbers_written, DecidesClock}
use Rattle.layout.proofs.WriteLaws.{restore_fits, digits_number, digits_year, letter_has}
use Rattle.meinberg_pzf.specs.Pzf.{pzf_layout, pzf_offset, pzf_fields, pzf_text, pzf_representable}

-- the offset is 0 exactly if t says so, whatever x is
zero_offset : (utc summer : Bool) → eq_ℤ (pzf_offset utc summer) (pos 0) ≡ utc
unfolding pzf_offset eq_ℤ
zero_offset true summer = refl
zero_offset false true = refl
zero_offset false false = refl

pub text_fields : (s : List ℕ) → FitsLayout pzf_layout s → pzf_text (pzf_fields s) ≡ s
unfolding pzf_text pzf_fields pzf_layout ascii allowed
text_fields s h =
    simp (digits_number h 2, digits_number h 1, digits_year h, letter_has h, zero_offset) (restore_fits h)

-- ---- deciding from the clock time
text_fits : (t : ClockTime) → FitsLayout pzf_layout (pzf_text t)
unfolding pzf_layout pzf_text ascii digits fits_from allowed
text_fits t = tested_fits pzf_layout (pzf_text t) refl (simp (digit_written, letter_fits))

fields_representable_lem : (s : List ℕ) → pzf_representable (pzf_fields s) ≡ true
unfolding pzf_representable pzf_fields
fields_representable_lem s = simp (zero_offset, eq_ℤ_refl)

text_says : (t : ClockTime) → is_representable t ≡ true → pzf_representable t ≡ true → pzf_fields (pzf_text t) ≡ t
unfolding pzf_representable pzf_fields pzf_text ascii digits
text_says t h k = simp (numbers_written, letter_read, eq_ℤ_true _ _ k)

pub decides : DecidesClock pzf_layout (λ s. false) pzf_fields pzf_text pzf_representable
unfolding pzf_fields pzf_offset
decides =
    record {
      offset = λ s. zone_in_range (has "U" 24 s) (has "S" 27 s);
      read_representable = fields_representable_lem;
      fits = text_fits;
      faultless = λ t. refl;
      says = text_says;
    }
