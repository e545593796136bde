-- The run that is made of a minute whose fields pass the writer's test keeps the rules, and its fields are those of the
-- minute.
use Prim.Native.Nat.{ℕ, zero, suc, ◌+◌, ◌/◌, ◌%◌, ◌≤◌}
use native.Mathlib.Omega.{arith}
use mathlib.Core.Path.{◌≡◌, refl, sym, ap, ◌∙◌}
use mathlib.Core.Logic.{◌⊎◌, inl, inr, ⊎_elim}
use mathlib.Core.Bool.{Bool, true, false, cond, not, ◌&&◌, and_assoc}
use mathlib.Core.List.{List, [], ◌∷◌, ◌++◌}
use lib.Dec.{leb, ltb, eqb, lit≤}
use lib.ListN.{length, get_or, take, drop}
use borrow.Author.Tests.{not-false, eqb-true, lt-ltb}
use Rattle.clock_time.specs.Zone.{cet_offset}
use Rattle.clock_time.proofs.Tests.{both}
use Rattle.clock_time.specs.Lists.{sum, slice}
use Rattle.gregorian.specs.Date.{date_exists, supported_date, full_year, first_year}
use Rattle.gregorian.proofs.DateLaws.{Known, known, year_sum}
use Rattle.gregorian.proofs.RulesLaws.{date_exactly}
use Rattle.calendar.specs.TimeOfDay.{time_exists}
use Rattle.calendar.specs.Rules.{ReadingRules}
use Rattle.calendar.proofs.RulesLaws.{time_exactly}
use Rattle.dcf77.specs.Marks.{long, all_sure, binary, two_digits, longs, bits}
use Rattle.dcf77.specs.Minute.{announced, minute_fields, mark, first_marks_of, minute_text}
use Rattle.dcf77.specs.Says.{four_marks, RunRules}
use Rattle.dcf77.specs.declared.MinuteTime.{MinuteTime}
use Rattle.dcf77.proofs.MarkLaws.{sure_small}
use Rattle.dcf77.proofs.SaysLaws.{four, longs_sum}
use Rattle.dcf77.proofs.AcceptLaws.{KeepsRules}
use Rattle.dcf77.proofs.BitLaws.{parity_even, binary_bits, two_digits_lem}
use Rattle.dcf77.proofs.FitLaws.{Fits}

-- ---- marks that are all sure
append_sure : (x y : List ℕ) → all_sure (x ++ y) ≡ (all_sure x && all_sure y)
unfolding all_sure
append_sure [] y = refl
append_sure (b ∷ x) y = rw (append_sure x y) (sym (and_assoc (ltb b 2) (all_sure x) (all_sure y)))

bit_small : (n : ℕ) → ltb (n % 2) 2 ≡ true
bit_small n = lt-ltb (n % 2) 2 (omega arith)

bits_sure : (k n : ℕ) → all_sure (bits k n) ≡ true
unfolding all_sure bits
bits_sure zero n = refl
bits_sure (suc k) n = simp (bit_small, bits_sure k (n / 2))

mark_small : (b : Bool) → ltb (mark b) 2 ≡ true
mark_small true = refl
mark_small false = refl

first_sure : (a : MinuteTime) → all_sure (first_marks_of a) ≡ true
unfolding first_marks_of all_sure
first_sure a = simp (append_sure, bits_sure, mark_small, bit_small)

text_sure : (a : MinuteTime) → all_sure (minute_text a) ≡ true
unfolding minute_text all_sure
text_sure a = simp (append_sure, first_sure) (last a.detail.sixty)
  where
    last : (t : Bool) → all_sure (cond t (0 ∷ []) []) ≡ true
    last true = refl
    last false = refl

mark_flag : (b : Bool) → eqb (mark b) 1 ≡ b
mark_flag true = refl
mark_flag false = refl

marks_differ : (b : Bool) → mark b ≡ mark (not b) → ⊥
marks_differ true h = omega arith
marks_differ false h = omega arith

-- a run that has a minute's numbers at their places
record Spelled (a : MinuteTime) (m : List ℕ) : Type 0 where
  marks : binary 14 1 m ≡ a.detail.first_marks
  minute : binary 4 21 m ≡ a.time.minute % 10
  minute_tens : binary 3 25 m ≡ a.time.minute / 10
  hour : binary 4 29 m ≡ a.time.hour % 10
  hour_tens : binary 2 33 m ≡ a.time.hour / 10
  day : binary 4 36 m ≡ a.time.day % 10
  day_tens : binary 2 40 m ≡ a.time.day / 10
  weekday : binary 3 42 m ≡ a.time.weekday
  month : binary 4 45 m ≡ a.time.month % 10
  month_tens : binary 1 49 m ≡ a.time.month / 10
  year : binary 4 50 m ≡ a.time.year % 10
  decade : binary 4 54 m ≡ a.time.year / 10 % 10

module _ (a : MinuteTime) (w : Fits a) where
  -- ---- the fields
  date : Known a.time.year a.time.month a.time.day
  date = known _ _ _ w.supported_date_lem

  spelled : Spelled a (minute_text a)
  unfolding minute_text first_marks_of bits binary
  spelled =
      record {
        marks = binary_bits 14 _ w.marks;
        minute = binary_bits 4 _ (omega arith);
        minute_tens = binary_bits 3 _ (omega arith);
        hour = binary_bits 4 _ (omega arith);
        hour_tens = binary_bits 2 _ (omega arith);
        day = binary_bits 4 _ (omega arith);
        day_tens = binary_bits 2 _ (omega (arith, date.day_most));
        weekday = binary_bits 3 _ (omega arith);
        month = binary_bits 4 _ (omega arith);
        month_tens = binary_bits 1 _ (omega (arith, date.month_most));
        year = binary_bits 4 _ (omega arith);
        decade = binary_bits 4 _ (omega arith);
      }

  minute_text_lem : two_digits 21 3 (minute_text a) ≡ a.time.minute
  minute_text_lem = two_digits_lem (minute_text a) 21 3 _ spelled.minute spelled.minute_tens

  hour_text : two_digits 29 2 (minute_text a) ≡ a.time.hour
  hour_text = two_digits_lem (minute_text a) 29 2 _ spelled.hour spelled.hour_tens

  day_text : two_digits 36 2 (minute_text a) ≡ a.time.day
  day_text = two_digits_lem (minute_text a) 36 2 _ spelled.day spelled.day_tens

  month_text : two_digits 45 1 (minute_text a) ≡ a.time.month
  month_text = two_digits_lem (minute_text a) 45 1 _ spelled.month spelled.month_tens

  year_text : full_year first_year (two_digits 50 4 (minute_text a)) ≡ a.time.year
  unfolding two_digits
  year_text =
      year_sum _ ∙ rw (spelled.year, spelled.decade) (omega (arith, date.year_least, date.year_most))

  flags_text_lem : (long 15 (minute_text a) ≡ a.time.alternate_antenna)
      × (long 16 (minute_text a) ≡ a.time.dst_change_announced)
      × (long 17 (minute_text a) ≡ a.time.summer_time)
      × (long 19 (minute_text a) ≡ a.time.leap_second_announced)
  unfolding minute_text first_marks_of bits
  flags_text_lem = (mark_flag _, mark_flag _, mark_flag _, mark_flag _)

  sixty_text : eqb (length (minute_text a)) 60 ≡ a.detail.sixty
  unfolding minute_text first_marks_of bits
  sixty_text = go a.detail.sixty
    where
      go : (t : Bool) → eqb (length (first_marks_of a ++ cond t (0 ∷ []) [])) 60 ≡ t
      go true = refl
      go false = refl

  pub fields_text : minute_fields (minute_text a) ≡ a
  unfolding minute_fields announced
  fields_text =
      let zone = ap cet_offset flags_text_lem.2 ∙ sym w.zone in
      λ i.
      record {
        time =
            record {
              year = year_text i;
              month = month_text i;
              day = day_text i;
              weekday = spelled.weekday i;
              hour = hour_text i;
              minute = minute_text_lem i;
              second = sym w.second i;
              utc_offset = zone i;
              unsynchronised = sym w.synchronised i;
              unverified = sym w.verified i;
              summer_time = flags_text_lem.2 i;
              dst_change_announced = flags_text_lem.1 i;
              leap_second_announced = flags_text_lem.3 i;
              alternate_antenna = flags_text_lem.0 i;
            };
        detail = record { first_marks = spelled.marks i; sixty = sixty_text i };
      }

  -- ---- the rules
  text_long : (length (minute_text a) ≡ 59) ⊎ (length (minute_text a) ≡ 60)
  unfolding minute_text first_marks_of bits
  text_long = go a.detail.sixty
    where
      go : (t : Bool) → (length (first_marks_of a ++ cond t (0 ∷ []) []) ≡ 59)
          ⊎ (length (first_marks_of a ++ cond t (0 ∷ []) []) ≡ 60)
      go true = inr refl
      go false = inl refl

  date_exists_lem : let t = announced (minute_text a) in date_exists t.year t.month t.day ≡ true
  unfolding announced supported_date
  date_exists_lem =
      let t = a.time in
      let years = leb 1970 t.year && leb t.year 2069 in
      let k = both years (date_exists t.year t.month t.day) w.supported_date_lem in
      rw (year_text, month_text, day_text) k.1

  time_exists_lem : let t = announced (minute_text a) in
      time_exists t.hour t.minute t.second t.utc_offset ≡ true
  unfolding announced time_exists
  time_exists_lem = simp (hour_text, minute_text_lem, lt-ltb _ _ w.hour, lt-ltb _ _ w.minute)

  leap_holds : length (minute_text a) ≡ 60
      → (get_or (minute_text a) 19 0 ≡ 1) × (get_or (minute_text a) 59 0 ≡ 0) × ((announced (minute_text a)).minute ≡ 0)
  unfolding minute_text first_marks_of bits announced
  leap_holds e = go a.detail.sixty e w.leap
    where
      go : (t : Bool) → length (first_marks_of a ++ cond t (0 ∷ []) []) ≡ 60
          → (t && not (a.time.leap_second_announced && eqb a.time.minute 0)) ≡ false
          → (mark a.time.leap_second_announced ≡ 1) × (get_or (first_marks_of a ++ cond t (0 ∷ []) []) 59 0 ≡ 0)
          × (two_digits 21 3 (minute_text a) ≡ 0)
      go true e h =
          let both_hold = both a.time.leap_second_announced _ (not-false _ h) in
          (ap mark both_hold.0, refl, minute_text_lem ∙ eqb-true _ _ both_hold.1)
      go false e h = absurd (omega arith)

  opened : (get_or (minute_text a) 0 0 ≡ 0) × (get_or (minute_text a) 20 0 ≡ 1)
      × (get_or (minute_text a) 17 0 ≡ get_or (minute_text a) 18 0 → ⊥)
  unfolding minute_text first_marks_of bits
  opened = (refl, refl, marks_differ a.time.summer_time)

  parities : let m = minute_text a in
      (get_or m (21 + 7) 0 ≡ sum (slice 21 7 m) % 2) × (get_or m (29 + 6) 0 ≡ sum (slice 29 6 m) % 2)
      × (get_or m (36 + 22) 0 ≡ sum (slice 36 22 m) % 2)
  unfolding minute_text first_marks_of bits
  parities = (refl, refl, refl)

  even : (k at : ℕ) → at + k ≤ 59 → longs k at (minute_text a) % 2 ≡ 0 → sum (take k (drop at (minute_text a))) % 2 ≡ 0
  even k at h e =
      let l : 59 ≤ length (minute_text a) = ⊎_elim (λ e. omega arith) (λ e. omega arith) text_long in
      rw (longs_sum (minute_text a) k at (omega arith)) at e

  digit : (at n : ℕ) → binary 4 at (minute_text a) ≡ n % 10 → four_marks (minute_text a) at ≤ 9
  digit at n e = omega (arith, four (minute_text a) at)

  run_keeps : RunRules (minute_text a)
  run_keeps =
      record {
        marks = text_long;
        sure = sure_small (minute_text a) (text_sure a);
        first = opened.0;
        start = opened.1;
        zone = opened.2;
        minute_parity = even 8 21 (lit≤ tt) (parity_even (minute_text a) 7 21 parities.0);
        hour_parity = even 7 29 (lit≤ tt) (parity_even (minute_text a) 6 29 parities.1);
        date_parity = even 23 36 (lit≤ tt) (parity_even (minute_text a) 22 36 parities.2);
        minute_digit = digit 21 _ spelled.minute;
        hour_digit = digit 29 _ spelled.hour;
        day_digit = digit 36 _ spelled.day;
        month_digit = digit 45 _ spelled.month;
        year_digit = digit 50 _ spelled.year;
        decade_digit = digit 54 _ spelled.decade;
      }

  time_keeps : ReadingRules (announced (minute_text a))
  unfolding announced
  time_keeps =
      record {
        date = (date_exactly _ _ _).0 date_exists_lem;
        time = (time_exactly _ _ _ _).0 time_exists_lem;
        weekday_least = omega (arith, spelled.weekday);
        weekday_most = omega (arith, spelled.weekday);
      }

  pub text_keeps : KeepsRules (minute_text a)
  text_keeps = (run_keeps, time_keeps, leap_holds)
