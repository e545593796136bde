-- Laws of the Trimble string: its numbers of three and four digits, and its reading once it fits its layout.
use Rattle.std.proofs.Common.{◌≡◌, ℕ, suc, ◌+◌, ◌*◌, true, false, List, refl, ◌∙◌, arith}
use Rattle.clock_time.specs.Errors.{Answer, accepted, refused, checked}
use Rattle.clock_time.specs.declared.ClockTime.{ClockTime}
use Rattle.clock_time.proofs.ErrorLaws.{checked_map}
use Rattle.calendar.specs.Date.{with_weekday}
use Rattle.decimal.specs.Decimal.{value_from}
use Rattle.layout.specs.Layout.{FitsLayout, number, has}
use Rattle.layout.specs.Text.{supported_day, clock_checks}
use Rattle.layout.proofs.TextLaws.{later_checks, read_fitting}
use Rattle.trimble_sv6.specs.Sum.{sum_holds}
use Rattle.trimble_sv6.specs.Trimble.{trimble_layout, sent_fields, milliseconds_of, trimble_fields, read_clock, trimble}
use Rattle.trimble_sv6.specs.Trimble.{read_trimble}
use Rattle.trimble_sv6.specs.Says.{three_digits_at, four_digits_at}
use Rattle.trimble_sv6.specs.declared.TrimbleTime.{TrimbleTime}

-- ---- digits
module _ (s : List ℕ) (at : ℕ) where
  pub three_digits : number 3 at s ≡ three_digits_at s at
  unfolding value_from
  three_digits = omega arith

  pub four_digits : number 4 at s ≡ four_digits_at s at
  unfolding value_from
  four_digits = omega arith

  -- the same from numbers of one and two digits
  pub three_number : 10 * number 2 at s + number 1 (suc (suc at)) s ≡ number 3 at s
  unfolding value_from
  three_number = omega arith

  pub four_number : 100 * number 2 at s + number 2 (suc (suc at)) s ≡ number 4 at s
  unfolding value_from
  four_number = omega arith

-- ---- a string that fits its layout
module _ {s : List ℕ} (f : FitsLayout trimble_layout s) where
  read_fits : read_trimble s ≡ checked (later_checks trimble s) (trimble_fields s)
  unfolding read_trimble trimble
  read_fits = read_fitting trimble s f

  pub read_sum : sum_holds s ≡ false → read_trimble s ≡ refused 24
  unfolding trimble
  read_sum h = read_fits ∙ rw h

  pub read_invalid : sum_holds s ≡ true → has "1" 26 s ≡ false → read_trimble s ≡ refused 25
  unfolding trimble
  read_invalid h k = read_fits ∙ rw (h, k)

  pub read_right : sum_holds s ≡ true → has "1" 26 s ≡ true → read_trimble s ≡ read_clock s
  unfolding trimble
  read_right h k = read_fits ∙ rw (h, k)

-- ---- its clock time
-- milliseconds beside a clock time
abbrev pub timed : ℕ → Answer ClockTime → Answer TrimbleTime
timed n (accepted t) = accepted (record { time = t; milliseconds = n })
timed n (refused k) = refused k

pub read_clock_lem : (s : List ℕ) {t : ClockTime} {r : Answer ClockTime} → t ≡ sent_fields s
    → r ≡ checked (clock_checks (supported_day t) (with_weekday t) false) (with_weekday t)
    → timed (milliseconds_of s) r ≡ read_clock s
unfolding trimble_fields with_weekday supported_day
read_clock_lem s e h =
    rw (h, e)
    (checked_map (timed (milliseconds_of s)) (λ t. record { time = t; milliseconds = milliseconds_of s }) (λ t. refl)
    (λ k. refl) (clock_checks (supported_day (sent_fields s)) (with_weekday (sent_fields s)) false)
    (with_weekday (sent_fields s)))
