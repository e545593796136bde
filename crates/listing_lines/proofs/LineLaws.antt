-- Laws of the line of a clock time.
use Prim.Native.Nat.{ℕ}
use mathlib.Core.Path.{◌≡◌, refl}
use mathlib.Core.List.{List}
use lib.IntN.{ℤ}
use lib.ListN.{length}
use Rattle.signed.specs.Offset.{offset_text}
use Rattle.clock_time.specs.declared.ClockTime.{ClockTime}
use Rattle.clock_time.specs.Lists.{ascii, slice}
use Rattle.decimal.specs.Decimal.{digits}
use Rattle.listing_lines.specs.Line.{flags_text, line_with, time_line}

-- ---- the line is made of its parts' bytes one by one
slice_offset : (z : ℤ) → slice 0 6 (offset_text z) ≡ offset_text z
unfolding offset_text digits ascii
slice_offset z = refl

slice_flags : (t : ClockTime) → slice 0 7 (flags_text t) ≡ flags_text t
unfolding flags_text
slice_flags t = refl

pub line_parts : (t : ClockTime) {o f : List ℕ} → o ≡ offset_text t.utc_offset → f ≡ flags_text t
    → line_with t (slice 0 6 o) (slice 0 7 f) ≡ time_line t
unfolding time_line
line_parts t a b = rw (a, b) (simp (slice_offset, slice_flags))

pub length_line : (t : ClockTime) → length (time_line t) ≡ 35
unfolding time_line line_with offset_text flags_text digits ascii
length_line t = refl
