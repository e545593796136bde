-- Laws of the ELV string: its weekday, its flags, its reading once it fits its layout, its text, and that the writer
-- may decide from the clock time.
use Prim.Native.Nat.{ℕ, ◌+◌, ◌*◌, ◌%◌, ◌≤◌, ◌<◌}
use native.Mathlib.Omega.{arith}
use native.Mathlib.Decide.{ℕ_discrete, dec_lt}
use mathlib.Core.Path.{◌≡◌, refl, sym, ◌∙◌}
use mathlib.Core.Bool.{Bool, true, false, not, ◌&&◌, ◌||◌, beq}
use mathlib.Core.List.{List}
use lib.Dec.{eqb, leb, ltb, eqb→eq}
use lib.ListN.{get_or}
use mir.Val.{bool_byte}
use borrow.Author.Tests.{eq-eqb, ne_eqb, eqb-true, leb-true, lt-ltb, le-ltb, ltb-false, not-true}
use Rattle.calendar.specs.Date.{with_weekday, weekday_or_zero}
use Rattle.clock_time.specs.Errors.{Answer, refused, checked}
use Rattle.clock_time.specs.Same.{eq_ℤ, same_fields, same_time}
use Rattle.clock_time.specs.declared.ClockTime.{ClockTime}
use Rattle.clock_time.proofs.SameLaws.{eq_ℤ_refl, eqb_refl, beq_refl, beq_true, same_time_true}
use Rattle.clock_time.proofs.Tests.{both, below_at}
use Rattle.clock_time.specs.Lists.{ascii}
use Rattle.calendar.specs.Representable.{is_representable}
use Rattle.calendar.proofs.ValidLaws.{zone_in_range}
use Rattle.decimal.specs.Decimal.{digits, value, value_from}
use Rattle.decimal.proofs.DecimalLaws.{digit_range, digit_written, value_digits}
use Rattle.layout.specs.Layout.{allowed, fits_from, FitsLayout}
use Rattle.layout.specs.Text.{supported_day, clock_checks}
use Rattle.layout.proofs.LayoutLaws.{tested_fits, digit_place_lem}
use Rattle.layout.proofs.TextLaws.{read_fitting}
use Rattle.layout.proofs.AcceptLaws.{PassesText}
use Rattle.layout.proofs.WriteLaws.{restore_fits, digits_number, digits_year}
use Rattle.layout.proofs.DecideLaws.{numbers_written, DecidesClock}
use Rattle.elv_dcf7000.specs.Elv.{elv_layout, elv_flags, elv_flag_fault, summer_in, change_in, unsynchronised_in}
use Rattle.elv_dcf7000.specs.Elv.{elv_offset, sent_fields, elv_fields, flag_sum, elv_text, elv_representable}
use Rattle.elv_dcf7000.specs.Elv.{elv, read_elv}

-- ---- the flags
module _ {s : List ℕ} (h : FitsLayout elv_layout s) where
  first_flag : (48 ≤ get_or s 18 0) × (get_or s 18 0 ≤ 57)
  unfolding elv_layout ascii
  first_flag = digit_range (get_or s 18 0) (digit_place_lem h 18 refl)

  second_flag : (48 ≤ get_or s 19 0) × (get_or s 19 0 ≤ 57)
  unfolding elv_layout ascii
  second_flag = digit_range (get_or s 19 0) (digit_place_lem h 19 refl)

  -- the number is at most 7 if its first digit is 0 and its second at most 7
  pub flag_fault_lem : (not (eqb (get_or s 18 0) 48) || ltb 55 (get_or s 19 0)) ≡ elv_flag_fault s
  unfolding elv_flag_fault value_from
  flag_fault_lem =
      let a = first_flag in
      let b = second_flag in
      elim (ℕ_discrete (get_or s 18 0) 48) [
        | yes e ↦ elim (dec_lt 55 (get_or s 19 0)) [
          | yes l ↦ rw (eq-eqb _ _ e, lt-ltb _ _ l, lt-ltb 7 (elv_flags s) (omega (arith, e, l, b.0)))
          | no l ↦ rw (eq-eqb _ _ e, le-ltb 55 (get_or s 19 0) (omega arith), le-ltb 7 (elv_flags s) (omega (arith, e)))
        ]
        | no d ↦ rw (ne_eqb _ _ d, lt-ltb 7 (elv_flags s) (omega (arith, a.0, d)))
      ]

  -- and then it is its second digit
  pub flags_read : elv_flag_fault s ≡ false → get_or s 19 0 % 16 ≡ elv_flags s
  unfolding elv_flag_fault value_from
  flags_read e = omega (arith, first_flag, second_flag, ltb-false 7 (elv_flags s) e)

  -- ---- a string that fits its layout
  pub read_flags : elv_flag_fault s ≡ true → read_elv s ≡ refused 4
  unfolding read_elv elv
  read_flags k = read_fitting elv s h ∙ simp k

  pub read_clock_lem : elv_flag_fault s ≡ false → (a : Answer ClockTime)
      → a ≡ checked (clock_checks (supported_day (sent_fields s)) (with_weekday (sent_fields s)) false)
      (with_weekday (sent_fields s))
      → a ≡ read_elv s
  unfolding read_elv elv elv_fields with_weekday supported_day
  read_clock_lem k a e = e ∙ sym (read_fitting elv s h ∙ simp k)

-- a test that passes for every three flags
either_way : (Bool → Bool) → Bool
either_way f = f true && f false

one_way : (f : Bool → Bool) → either_way f ≡ true → (b : Bool) → f b ≡ true
unfolding either_way
one_way f h true = (both (f true) (f false) h).0
one_way f h false = (both (f true) (f false) h).1

every_flags : (f : Bool → Bool → Bool → Bool) → either_way (λ a. either_way (λ b. either_way (f a b))) ≡ true
    → (a b c : Bool) → f a b c ≡ true
every_flags f h a b c =
    one_way (f a b) (one_way (λ b. either_way (f a b)) (one_way (λ a. either_way (λ b. either_way (f a b))) h a) b) c

pub flag_sum_bytes : (a b c : Bool) → bool_byte a + 2 * bool_byte b + 4 * bool_byte c ≡ flag_sum a b c
unfolding flag_sum either_way
flag_sum_bytes a b c =
    eqb-true _ _
    (every_flags (λ a b c. eqb (bool_byte a + 2 * bool_byte b + 4 * bool_byte c) (flag_sum a b c)) refl a b c)

pub flag_sum_flags : (n : ℕ) → n < 8 → flag_sum (summer_in n) (change_in n) (unsynchronised_in n) ≡ n
unfolding flag_sum
flag_sum_flags n h =
    eqb→eq _ _ (below_at 8 (λ k. eqb (flag_sum (summer_in k) (change_in k) (unsynchronised_in k)) k) tt n h)

-- ---- the text of the fields
pub text_fields : (s : List ℕ) → PassesText elv s → elv_text (elv_fields s) ≡ s
unfolding elv elv_flag_fault elv_text elv_fields with_weekday sent_fields elv_layout ascii
text_fields s r =
    let h = r.clock.fits in
    let few : elv_flags s < 8 = omega (arith, ltb-false 7 (elv_flags s) r.flags) in
    simp (digits_number h 2, digits_year h, flag_sum_flags (elv_flags s) few) (restore_fits h)

-- ---- deciding from the clock time
text_fits : (t : ClockTime) → FitsLayout elv_layout (elv_text t)
unfolding elv_layout elv_text ascii digits fits_from allowed
text_fits t = tested_fits elv_layout (elv_text t) refl (simp digit_written)

-- the text's number of flags has two digits, is no fault, and says the flags
flags_small : (a b c : Bool) → flag_sum a b c ≤ 7
unfolding flag_sum either_way
flags_small a b c = leb-true _ _ (every_flags (λ a b c. leb (flag_sum a b c) 7) refl a b c)

pub summer_said : (a b c : Bool) → summer_in (flag_sum a b c) ≡ a
unfolding flag_sum either_way
summer_said a b c = beq_true _ _ (every_flags (λ a b c. beq (summer_in (flag_sum a b c)) a) refl a b c)

pub change_said : (a b c : Bool) → change_in (flag_sum a b c) ≡ b
unfolding flag_sum either_way
change_said a b c = beq_true _ _ (every_flags (λ a b c. beq (change_in (flag_sum a b c)) b) refl a b c)

pub unsynchronised_said : (a b c : Bool) → unsynchronised_in (flag_sum a b c) ≡ c
unfolding flag_sum either_way
unsynchronised_said a b c =
    beq_true _ _ (every_flags (λ a b c. beq (unsynchronised_in (flag_sum a b c)) c) refl a b c)

flags_of : ClockTime → ℕ
flags_of t = flag_sum t.summer_time t.dst_change_announced t.unsynchronised

flags_digits : (t : ClockTime) → value (digits 2 (flags_of t)) ≡ flags_of t
unfolding flags_of
flags_digits t =
    value_digits 2 (flags_of t)
    (omega (arith, flags_small t.summer_time t.dst_change_announced t.unsynchronised))

fields_representable_lem : (s : List ℕ) → elv_representable (elv_fields s) ≡ true
unfolding elv_representable elv_fields with_weekday sent_fields
fields_representable_lem s = simp (eq_ℤ_refl, eqb_refl)

text_faultless : (t : ClockTime) → elv_flag_fault (elv_text t) ≡ false
unfolding elv_flag_fault elv_text ascii digits flags_of
text_faultless t =
    rw (flags_digits t)
    (le-ltb 7 (flags_of t) (flags_small t.summer_time t.dst_change_announced t.unsynchronised))

text_says : (t : ClockTime) → is_representable t ≡ true → elv_representable t ≡ true → elv_fields (elv_text t) ≡ t
unfolding elv_representable elv_fields with_weekday sent_fields elv_text ascii digits same_time same_fields flags_of
text_says t h k =
    let zone = eq_ℤ (elv_offset t.summer_time) t.utc_offset in
    let day = eqb (weekday_or_zero t.year t.month t.day) t.weekday in
    let x = both (zone && day && not t.unverified && not t.leap_second_announced)
    (not t.alternate_antenna) k in
    let y = both (zone && day && not t.unverified) (not t.leap_second_announced) x.0 in
    let z = both (zone && day) (not t.unverified) y.0 in
    let v = both zone day z.0 in
    same_time_true _ t
    (simp (
      numbers_written,
      flags_digits,
      summer_said,
      change_said,
      unsynchronised_said,
      v.0,
      v.1,
      not-true t.unverified z.1,
      not-true t.leap_second_announced y.1,
      not-true t.alternate_antenna x.1,
      eqb_refl,
      beq_refl,
    ))

pub decides : DecidesClock elv_layout elv_flag_fault elv_fields elv_text elv_representable
unfolding elv_fields with_weekday sent_fields elv_offset
decides =
    record {
      offset = λ s. zone_in_range false (summer_in (elv_flags s));
      read_representable = fields_representable_lem;
      fits = text_fits;
      faultless = text_faultless;
      says = text_says;
    }
