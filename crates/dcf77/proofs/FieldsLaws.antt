-- An accepted run of marks is the one that its fields are written as.
use Prim.Native.Nat.{ℕ, ◌+◌, ◌/◌, ◌%◌, ◌≤◌, ◌<◌}
use native.Mathlib.Omega.{arith}
use native.Mathlib.Decide.{ℕ_discrete}
use mathlib.Core.Path.{◌≡◌, refl, ap, ◌∙◌, ap₂}
use mathlib.Core.Logic.{⊎_elim}
use mathlib.Core.Bool.{cond, not}
use mathlib.Core.List.{List, [], ◌∷◌, ◌++◌}
use lib.Dec.{eqb, lit≤}
use lib.ListN.{length, get_or, take, drop}
use borrow.Author.Tests.{eq-eqb, ne_eqb}
use Rattle.clock_time.specs.Errors.{accepted}
use Rattle.clock_time.specs.Lists.{sum, slice}
use Rattle.clock_time.proofs.ListsLaws.{slice_all, slice_slice}
use Rattle.dcf77.specs.Marks.{binary, two_digits, longs, bits}
use Rattle.dcf77.specs.Minute.{announced, minute_fields, read_minute, mark, with_parity, first_marks_of, minute_text}
use Rattle.dcf77.specs.Says.{four_marks, RunRules, LeapRule}
use Rattle.dcf77.specs.declared.MinuteTime.{MinuteTime}
use Rattle.dcf77.proofs.SaysLaws.{four, longs_sum, long_enough}
use Rattle.dcf77.proofs.AcceptLaws.{read_keeps}
use Rattle.dcf77.proofs.BitLaws.{bits_binary, parity_mark, parity_last}
use Rattle.dcf77.proofs.BitLaws.{ones_digit, tens_digit, year_digits}

-- ---- single marks
flag_mark : (b : ℕ) → b ≤ 1 → mark (eqb b 1) ≡ b
flag_mark b h = elim (ℕ_discrete b 1) [
  | yes e ↦ simp (eq-eqb b 1 e) (omega arith)
  | no e ↦ simp (ne_eqb b 1 e) (omega arith)
]

other_mark : (a b : ℕ) → a ≤ 1 → b ≤ 1 → (a ≡ b → ⊥) → mark (not (eqb a 1)) ≡ b
other_mark a b h l differ = elim (ℕ_discrete a 1) [
  | yes e ↦ simp (eq-eqb a 1 e) (omega arith)
  | no e ↦ simp (ne_eqb a 1 e) (omega arith)
]

module _ (m : List ℕ) (r : RunRules m) where
  -- ---- the rules, of what the reader takes from the marks
  digit : (at : ℕ) → four_marks m at ≤ 9 → binary 4 at m ≤ 9
  digit at h = rw (four m at) h

  even : (k at : ℕ) → at + k ≤ 59 → sum (take k (drop at m)) % 2 ≡ 0 → longs k at m % 2 ≡ 0
  even k at h e = rw (longs_sum m k at (omega (arith, long_enough r))) e

  -- ---- the three groups
  number_group : (at tens : ℕ) → binary 4 at m ≤ 9 → longs (4 + tens + 1) at m % 2 ≡ 0
      → with_parity (bits 4 (two_digits at tens m % 10) ++ bits tens (two_digits at tens m / 10))
      ≡ slice at (4 + tens + 1) m
  number_group at tens digit even =
      let ones = ap (bits 4) (ones_digit m at tens digit) ∙ bits_binary m r.sure 4 at in
      let rest = ap (bits tens) (tens_digit m at tens digit) ∙ bits_binary m r.sure tens (4 + at) in
      ap with_parity (ap₂ (λ (a b : List ℕ). a ++ b) ones rest ∙ slice_slice m 4 tens at)
      ∙ parity_last m r.sure (4 + tens) at even

  year_small : two_digits 50 4 m < 100
  unfolding two_digits
  year_small = omega (arith, digit 50 r.year_digit, digit 54 r.decade_digit)

  date_group : let t = announced m in
      with_parity (bits 4 (t.day % 10) ++ bits 2 (t.day / 10) ++ bits 3 t.weekday ++ bits 4 (t.month % 10)
      ++ bits 1 (t.month / 10) ++ bits 4 (t.year % 10) ++ bits 4 (t.year / 10 % 10)) ≡ slice 36 23 m
  unfolding announced
  date_group =
      let year = year_digits (two_digits 50 4 m) year_small in
      rw (
        ones_digit m 36 2 (digit 36 r.day_digit),
        tens_digit m 36 2 (digit 36 r.day_digit),
        ones_digit m 45 1 (digit 45 r.month_digit),
        tens_digit m 45 1 (digit 45 r.month_digit),
        year.0 ∙ ones_digit m 50 4 (digit 50 r.year_digit),
        year.1 ∙ tens_digit m 50 4 (digit 50 r.year_digit),
        bits_binary m r.sure 4 36,
        bits_binary m r.sure 2 40,
        bits_binary m r.sure 3 42,
        bits_binary m r.sure 4 45,
        bits_binary m r.sure 1 49,
        bits_binary m r.sure 4 50,
        bits_binary m r.sure 4 54,
        parity_mark m r.sure 22 36 (even 23 36 (lit≤ tt) r.date_parity),
      )

  -- ---- the whole run
  first_marks : first_marks_of (minute_fields m) ≡ slice 0 59 m
  unfolding first_marks_of minute_fields announced
  first_marks =
      rw (
        number_group 21 3 (digit 21 r.minute_digit) (even 8 21 (lit≤ tt) r.minute_parity),
        number_group 29 2 (digit 29 r.hour_digit) (even 7 29 (lit≤ tt) r.hour_parity),
        date_group,
        bits_binary m r.sure 14 1,
        flag_mark (get_or m 15 0) (r.sure 15),
        flag_mark (get_or m 16 0) (r.sure 16),
        flag_mark (get_or m 17 0) (r.sure 17),
        other_mark (get_or m 17 0) (get_or m 18 0) (r.sure 17) (r.sure 18) r.zone,
        flag_mark (get_or m 19 0) (r.sure 19),
        r.first,
        r.start,
      )

  whole_run : (n : ℕ) → length m ≡ n → slice 0 59 m ++ cond (eqb n 60) (0 ∷ []) [] ≡ slice 0 n m
      → minute_text (minute_fields m) ≡ m
  unfolding minute_text minute_fields
  whole_run n e last =
      let all : slice 0 n m ≡ m = rw (← e) (slice_all m) in
      ap (λ (l : List ℕ). l ++ cond (eqb (length m) 60) (0 ∷ []) []) first_marks ∙ rw e (last ∙ all)

  text_fields : LeapRule m (announced m) → minute_text (minute_fields m) ≡ m
  text_fields leap =
      ⊎_elim (λ e. whole_run 59 e refl) (λ e. whole_run 60 e (rw (leap e).1)) r.marks

pub text_read : (m : List ℕ) (a : MinuteTime) → read_minute m ≡ accepted a → minute_text a ≡ m
text_read m a h = let w = read_keeps m a h in rw w.1 (text_fields m w.0.0 w.0.2)
