-- A standard string that fits its layout is the text of its fields, and the writer may decide from the clock time.
use Prim.Native.Nat.{ℕ}
use Prim.Native.Char.{code}
use native.Mathlib.Omega.{arith}
use mathlib.Core.Path.{◌≡◌, refl, sym, ◌∙◌}
use mathlib.Core.Bool.{Bool, true, false, cond, not, ◌&&◌, ◌||◌, false≢true}
use mathlib.Core.List.{List}
use lib.Dec.{eqb, lit<}
use lib.ListN.{get_or}
use lib.IntN.{ℤ, pos}
use borrow.Author.Tests.{eqb-true, not-true}
use Rattle.clock_time.specs.Zone.{cet_offset}
use Rattle.clock_time.specs.Same.{eq_ℤ, same_fields, same_time}
use Rattle.clock_time.specs.declared.ClockTime.{ClockTime}
use Rattle.clock_time.proofs.SameLaws.{eq_ℤ_refl, eq_ℤ_true, eqb_refl, beq_refl, same_time_true}
use Rattle.clock_time.proofs.Tests.{both}
use Rattle.clock_time.specs.Lists.{ascii}
use Rattle.calendar.specs.Representable.{is_representable}
use Rattle.calendar.proofs.ValidLaws.{zone_in_range}
use Rattle.decimal.specs.Decimal.{digits}
use Rattle.decimal.proofs.DecimalLaws.{digit_written}
use Rattle.layout.specs.Layout.{allowed, fits_from, FitsLayout}
use Rattle.layout.proofs.LayoutLaws.{tested_fits}
use Rattle.layout.proofs.DecideLaws.{letter_fits, letter_read, numbers_written, DecidesClock}
use Rattle.layout.proofs.WriteLaws.{restore_fits, digits_number, digits_year, letter_has, either_all}
use Rattle.meinberg_standard.specs.Standard.{standard_layout, standard_zone, standard_fields}
use Rattle.meinberg_standard.specs.Standard.{zone_letter, announced_letter, standard_text, standard_representable}

letter_zone : (b : ℕ) → (eqb b 32 || eqb b (code "U") || eqb b (code "S")) ≡ true
    → zone_letter (standard_zone b) (eqb b (code "S")) ≡ b
unfolding standard_zone zone_letter eq_ℤ
letter_zone b h = either_all (λ x. zone_letter (standard_zone x) (eqb x (code "S")) ≡ x) b "U" "S" refl refl refl h

letter_announced : (b : ℕ) → (eqb b 32 || eqb b (code "!") || eqb b (code "A")) ≡ true
    → announced_letter (eqb b (code "!")) (eqb b (code "A")) ≡ b
unfolding announced_letter
letter_announced b h = either_all
    (λ x. announced_letter (eqb x (code "!")) (eqb x (code "A")) ≡ x) b "!" "A" refl refl refl h

pub text_fields : (s : List ℕ) → FitsLayout standard_layout s → standard_text (standard_fields s) ≡ s
unfolding standard_text standard_fields standard_layout ascii allowed
text_fields s h =
    simp (
      digits_number h 2,
      digits_number h 1,
      digits_year h,
      letter_has h,
      letter_zone (get_or s 29 0) (h.at 29 (lit< tt)),
      letter_announced (get_or s 30 0) (h.at 30 (lit< tt)),
    )
    (restore_fits h)

-- ---- deciding from the clock time
zone_fits : (z : ℤ) (summer : Bool) → let x = zone_letter z summer in
    (eqb x 32 || eqb x (code "U") || eqb x (code "S")) ≡ true
unfolding zone_letter
zone_fits z true = refl
zone_fits z false = go (eq_ℤ z (pos 0))
  where
    go : (b : Bool) → let x = cond {A = ℕ} b (code "U") 32 in
        (eqb x 32 || eqb x (code "U") || eqb x (code "S")) ≡ true
    go true = refl
    go false = refl

announced_fits : (change leap : Bool) → let x = announced_letter change leap in
    (eqb x 32 || eqb x (code "!") || eqb x (code "A")) ≡ true
unfolding announced_letter
announced_fits true leap = refl
announced_fits false true = refl
announced_fits false false = refl

text_fits : (t : ClockTime) → FitsLayout standard_layout (standard_text t)
unfolding standard_layout standard_text ascii digits fits_from allowed
text_fits t =
    tested_fits standard_layout (standard_text t) refl (simp (digit_written, letter_fits, zone_fits, announced_fits))

-- what is read is representable
zone_representable : (x : ℕ)
    → eq_ℤ (standard_zone (zone_letter (standard_zone x) (eqb x (code "S")))) (standard_zone x) ≡ true
unfolding standard_zone zone_letter eq_ℤ
zone_representable x = go (eqb x (code "U")) (eqb x (code "S")) refl refl
  where
    go : (u v : Bool) → eqb x (code "U") ≡ u → eqb x (code "S") ≡ v
        → eq_ℤ (standard_zone (zone_letter (cond u (pos 0) (cet_offset v)) v))
        (cond u (pos 0) (cet_offset v)) ≡ true
    go true true e f =
        let z : ◌≡◌ {A = ℕ} 85 83 = sym (eqb-true x 85 e) ∙ eqb-true x 83 f in
        absurd (omega arith)
    go true false e f = refl
    go false true e f = refl
    go false false e f = refl

not_both : (x : ℕ) → not (eqb x (code "!") && eqb x (code "A")) ≡ true
not_both x = go (eqb x (code "!")) (eqb x (code "A")) refl refl
  where
    go : (u v : Bool) → eqb x (code "!") ≡ u → eqb x (code "A") ≡ v → not (u && v) ≡ true
    go true true e f =
        let z : ◌≡◌ {A = ℕ} 33 65 = sym (eqb-true x 33 e) ∙ eqb-true x 65 f in
        absurd (omega arith)
    go true false e f = refl
    go false v e f = refl

fields_representable_lem : (s : List ℕ) → standard_representable (standard_fields s) ≡ true
unfolding standard_representable standard_fields
fields_representable_lem s = simp (zone_representable, not_both)

-- the letters are read as they were written
summer_read : (z : ℤ) (summer : Bool) → eqb (zone_letter z summer) (code "S") ≡ summer
unfolding zone_letter
summer_read z true = refl
summer_read z false = go (eq_ℤ z (pos 0))
  where
    go : (b : Bool) → eqb (cond {A = ℕ} b (code "U") 32) (code "S") ≡ false
    go true = refl
    go false = refl

change_read : (change leap : Bool) → eqb (announced_letter change leap) (code "!") ≡ change
unfolding announced_letter
change_read true leap = refl
change_read false true = refl
change_read false false = refl

leap_read : (change leap : Bool) → not (change && leap) ≡ true → eqb (announced_letter change leap) (code "A") ≡ leap
unfolding announced_letter
leap_read true true h = absurd (false≢true h)
leap_read true false h = refl
leap_read false true h = refl
leap_read false false h = refl

text_says : (t : ClockTime) → is_representable t ≡ true → standard_representable t ≡ true
    → standard_fields (standard_text t) ≡ t
unfolding standard_representable standard_fields standard_text ascii digits same_time same_fields
text_says t h k =
    let zone = eq_ℤ (standard_zone (zone_letter t.utc_offset t.summer_time)) t.utc_offset in
    let alone = not (t.dst_change_announced && t.leap_second_announced) in
    let v = both (zone && alone) (not t.alternate_antenna) k in
    let u = both zone alone v.0 in
    same_time_true _ t
    (simp (
      numbers_written,
      letter_read,
      eq_ℤ_true _ _ u.0,
      summer_read,
      change_read,
      leap_read,
      u.1,
      not-true t.alternate_antenna v.1,
      eqb_refl,
      beq_refl,
      eq_ℤ_refl,
    ))

pub decides : DecidesClock standard_layout (λ s. false) standard_fields standard_text standard_representable
unfolding standard_fields standard_zone
decides =
    record {
      offset = λ s. zone_in_range (eqb (get_or s 29 0) (code "U")) (eqb (get_or s 29 0) (code "S"));
      read_representable = fields_representable_lem;
      fits = text_fits;
      faultless = λ t. refl;
      says = text_says;
    }
