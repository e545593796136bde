-- Each line of the table for a minute holds in words exactly if its check fails; the first eight together are the rules
-- of a run.
use Prim.Native.Nat.{ℕ, suc, ◌+◌, ◌%◌, ◌≤◌, ◌<◌, suc-le-suc}
use native.Mathlib.Decide.{dec_lt}
use native.Mathlib.Omega.{arith}
use mathlib.Core.Path.{◌≡◌, refl}
use mathlib.Core.Logic.{◌↔◌, ◌⊎◌, ⊎_elim}
use mathlib.Core.Bool.{Bool, true, not, ◌&&◌, ◌||◌, and_assoc, false≢true}
use mathlib.Core.List.{List, [], ◌∷◌}
use lib.Dec.{leb, eqb}
use lib.ListN.{length, get_or, take, drop}
use borrow.Author.Tests.{lt-ltb, eqb-false, ne_eqb, not-false}
use Rattle.clock_time.specs.Errors.{Passes}
use Rattle.clock_time.specs.declared.ClockTime.{ClockTime}
use Rattle.clock_time.proofs.ExactLaws.{eq_exactly, le_exactly, above_exactly, not_exactly, passes_exactly}
use Rattle.clock_time.proofs.ExactLaws.{both_exactly, either_exactly, not_both_exactly}
use Rattle.clock_time.proofs.OrderLaws.{Agree}
use Rattle.clock_time.specs.Lists.{sum}
use Rattle.gregorian.specs.Rules.{GregorianDate}
use Rattle.gregorian.proofs.RulesLaws.{date_exactly}
use Rattle.calendar.specs.Rules.{TimeOfDay}
use Rattle.calendar.proofs.RulesLaws.{time_exactly, weekday_exactly}
use Rattle.dcf77.specs.Marks.{long, short, all_sure, binary, longs, is_odd}
use Rattle.dcf77.specs.Minute.{announced, minute_checks}
use Rattle.dcf77.specs.Says.{Short, Long, four_marks, RunRules, Announces}
use Rattle.dcf77.specs.Lines.{minute_lines}
use Rattle.dcf77.proofs.MarkLaws.{sure_small, small_sure}
use Rattle.dcf77.proofs.CheckLaws.{length_between}
use Rattle.dcf77.proofs.SaysLaws.{four, longs_sum, long_enough, announced_says, said_announced}

-- ---- 12
abbrev Unsure : List ℕ → Type 0
Unsure m = (i : ℕ) × (i < length m) × (Short m i → ⊥) × (Long m i → ⊥)

unsure : (m : List ℕ) → not (all_sure m) ≡ true → Unsure m
unfolding all_sure
unsure [] h = absurd (false≢true h)
unsure (b ∷ m) h = elim (dec_lt b 2) [
  | yes l ↦ let u = unsure m (simp (lt-ltb b 2 l) at h) in (suc u.0, suc-le-suc u.1, u.2, u.3)
  | no l ↦ (0, omega arith, λ e. omega arith, λ e. omega arith)
]

unsure_exactly : (m : List ℕ) → (not (all_sure m) ≡ true) ↔ Unsure m
unsure_exactly m = (unsure m, λ u. (not_exactly (all_sure m) (sure_small m, small_sure m)).1 (none u))
  where
    none : Unsure m → ((i : ℕ) → get_or m i 0 ≤ 1) → ⊥
    none u s = omega (arith, s u.0, u.2, u.3)

-- ---- the others
-- four marks from a place on are no more than 9
abbrev is_digit : List ℕ → ℕ → Bool
is_digit m at = leb (binary 4 at m) 9

module _ (m : List ℕ) where
  -- ---- 11, 13, 15 to 18
  length_exactly : ((eqb (length m) 59 || eqb (length m) 60) ≡ true) ↔ ((length m ≡ 59) ⊎ (length m ≡ 60))
  length_exactly = either_exactly _ _ (eq_exactly _ _) (eq_exactly _ _)

  start_exactly : ((short 0 m && long 20 m) ≡ true) ↔ (Short m 0 × Long m 20)
  start_exactly = both_exactly _ _ (eq_exactly _ _) (eq_exactly _ _)

  even_exactly : (k at : ℕ) → at + k ≤ length m → (eqb (longs k at m % 2) 0 ≡ true) ↔ (sum (take k (drop at m)) % 2 ≡ 0)
  even_exactly k at h = rw (longs_sum m k at h) (eq_exactly _ _)

  digit_exactly : (at : ℕ) → (is_digit m at ≡ true) ↔ (four_marks m at ≤ 9)
  digit_exactly at = rw (four m at) (le_exactly _ _)

  above : (at : ℕ) → (not (is_digit m at) ≡ true) ↔ (9 < four_marks m at)
  above at = rw (four m at) (above_exactly _ _)

  all_digits :
      ((is_digit m 21 && is_digit m 29 && is_digit m 36 && is_digit m 45 && is_digit m 50 && is_digit m 54) ≡ true)
      ↔ ((((((four_marks m 21 ≤ 9) × (four_marks m 29 ≤ 9)) × (four_marks m 36 ≤ 9)) × (four_marks m 45 ≤ 9))
      × (four_marks m 50 ≤ 9)) × (four_marks m 54 ≤ 9))
  all_digits =
      let one = both_exactly _ _ (digit_exactly 21) (digit_exactly 29) in
      let two = both_exactly _ _ one (digit_exactly 36) in
      let three = both_exactly _ _ two (digit_exactly 45) in
      both_exactly _ _ (both_exactly _ _ three (digit_exactly 50)) (digit_exactly 54)

  digit_above :
      (not (is_digit m 21 && is_digit m 29 && is_digit m 36 && is_digit m 45 && is_digit m 50 && is_digit m 54) ≡ true)
      ↔ ((9 < four_marks m 21) ⊎ (9 < four_marks m 29) ⊎ (9 < four_marks m 36) ⊎ (9 < four_marks m 45)
      ⊎ (9 < four_marks m 50) ⊎ (9 < four_marks m 54))
  digit_above =
      let two = more 50 (is_digit m 54) (above 54) in
      let three = more 45 (is_digit m 50 && is_digit m 54) two in
      let four = more 36 (is_digit m 45 && (is_digit m 50 && is_digit m 54)) three in
      let five = more 29 (is_digit m 36 && (is_digit m 45 && (is_digit m 50 && is_digit m 54))) four in
      simp and_assoc
      (more 21 (is_digit m 29 && (is_digit m 36 && (is_digit m 45 && (is_digit m 50 && is_digit m 54)))) five)
    where
      more : (at : ℕ) (b : Bool) {Q : Type 0} → ((not b ≡ true) ↔ Q)
          → (not (is_digit m at && b) ≡ true) ↔ ((9 < four_marks m at) ⊎ Q)
      more at b i = not_both_exactly (is_digit m at) b (above at) i

  -- ---- 11 to 18 together
  pub run_rules : Passes (take 8 (minute_checks m)) → RunRules m
  unfolding minute_checks is_odd
  run_rules p =
      let marks = (passes_exactly _ length_exactly).0 p.0 in
      let l : 59 ≤ length m = ⊎_elim (λ e. omega arith) (λ e. omega arith) marks in
      let start = (passes_exactly _ start_exactly).0 p.1.1.0 in
      let zone = p.1.1.1 in
      let parity = zone.1 in
      let digits = (passes_exactly _ all_digits).0 parity.1.1.1.0 in
      record {
        marks = marks;
        sure = sure_small m (not-false _ p.1.0);
        first = start.0;
        start = start.1;
        zone = eqb-false _ _ zone.0;
        minute_parity = (passes_exactly _ (even_exactly 8 21 (omega arith))).0 parity.0;
        hour_parity = (passes_exactly _ (even_exactly 7 29 (omega arith))).0 parity.1.0;
        date_parity = (passes_exactly _ (even_exactly 23 36 (omega arith))).0 parity.1.1.0;
        minute_digit = digits.0.0.0.0.0;
        hour_digit = digits.0.0.0.0.1;
        day_digit = digits.0.0.0.1;
        month_digit = digits.0.0.1;
        year_digit = digits.0.1;
        decade_digit = digits.1;
      }

  pub rules_run : RunRules m → Passes (take 8 (minute_checks m))
  unfolding minute_checks is_odd
  rules_run r =
      let l = long_enough r in (
        (passes_exactly _ length_exactly).1 r.marks,
        (
          simp (small_sure m r.sure),
          (
            (passes_exactly _ start_exactly).1 (r.first, r.start),
            (
              ne_eqb _ _ r.zone,
              (
                (passes_exactly _ (even_exactly 8 21 (omega arith))).1 r.minute_parity,
                (
                  (passes_exactly _ (even_exactly 7 29 (omega arith))).1 r.hour_parity,
                  (
                    (passes_exactly _ (even_exactly 23 36 (omega arith))).1 r.date_parity,
                    (
                      (passes_exactly _ all_digits).1 (
                        (
                          (((r.minute_digit, r.hour_digit), r.day_digit), r.month_digit),
                          r.year_digit,
                        ),
                        r.decade_digit,
                      ),
                      tt,
                    ),
                  ),
                ),
              ),
            ),
          ),
        ),
      )

  -- ---- 7, 5, 6, 19
  -- a line on the time that the marks announce
  announced_exactly : RunRules m → (P : ClockTime → Type 0) (b : Bool) → ((b ≡ true) ↔ P (announced m))
      → (not b ≡ true) ↔ ((t : ClockTime) × (Announces m t × (P t → ⊥)))
  announced_exactly r P b i = (
    λ h. (announced m, (announced_says m r, (not_exactly b i).0 h)),
    λ w. (not_exactly b i).1 (rw (said_announced m r w.0 w.1.0) at w.1.1),
  )

  pub leap_exactly : (n : ℕ) → ((long 19 m && short 59 m && eqb n 0) ≡ true) ↔ (Long m 19 × Short m 59 × (n ≡ 0))
  leap_exactly n =
      let i = both_exactly _ _ (both_exactly _ _ (eq_exactly (get_or m 19 0) 1) (eq_exactly (get_or m 59 0) 0))
      (eq_exactly n 0) in
      (λ h. let w = i.0 h in (w.0.0, w.0.1, w.1), λ w. i.1 ((w.0, w.1), w.2))

  -- ---- the whole table
  pub agrees : Agree (minute_checks m) (minute_lines m)
  unfolding minute_checks minute_lines is_odd
  agrees = (
    refl,
    not_exactly _ length_exactly,
    λ e11. let l = (length_between (length m) e11).0 in (
      refl,
      unsure_exactly m,
      λ e12. (
        refl,
        not_both_exactly (short 0 m) (long 20 m) (not_exactly _ (eq_exactly _ _)) (not_exactly _ (eq_exactly _ _)),
        λ e13. (
          refl,
          eq_exactly _ _,
          λ e14. (
            refl,
            not_exactly _ (even_exactly 8 21 (omega arith)),
            λ e15. (
              refl,
              not_exactly _ (even_exactly 7 29 (omega arith)),
              λ e16. (
                refl,
                not_exactly _ (even_exactly 23 36 (omega arith)),
                λ e17. (
                  refl,
                  digit_above,
                  λ e18. let r = run_rules (e11, (e12, (e13, (e14, (e15, (e16, (e17, (e18, tt)))))))) in (
                    refl,
                    announced_exactly r (λ t. (1 ≤ t.weekday) × (t.weekday ≤ 7)) _ (weekday_exactly _),
                    λ e7. (
                      refl,
                      announced_exactly r (λ t. GregorianDate t.year t.month t.day) _ (date_exactly _ _ _),
                      λ e5. (
                        refl,
                        announced_exactly r (λ t. TimeOfDay t.hour t.minute t.second t.utc_offset) _
                            (time_exactly _ _ _ _),
                        λ e6. (
                          refl,
                          both_exactly _ _ (eq_exactly _ _)
                              (announced_exactly r (λ t. Long m 19 × Short m 59 × (t.minute ≡ 0)) _ (leap_exactly _)),
                          λ e19. tt,
                        ),
                      ),
                    ),
                  ),
                ),
              ),
            ),
          ),
        ),
      ),
    ),
  )
