-- A position has no fault exactly if the rules in words hold of it: right-aligned bytes are blanks and then digits, for
-- any number of places.
use Prim.Native.Nat.{ℕ, zero, suc, ◌+◌, ◌≤◌}
use native.Mathlib.Decide.{ℕ_discrete}
use native.Mathlib.Omega.{arith}
use mathlib.Core.Path.{◌≡◌, refl, ◌∙◌}
use mathlib.Core.Logic.{◌↔◌, ⊎_elim, by_cases}
use mathlib.Core.Bool.{true, false}
use mathlib.Core.List.{List}
use lib.ListN.{get_or}
use borrow.Author.Tests.{le-leb}
use Rattle.clock_time.proofs.Tests.{both}
use Rattle.clock_time.specs.Lists.{slice}
use Rattle.decimal.specs.Decimal.{is_digit, value_from}
use Rattle.decimal.proofs.DecimalLaws.{digit_range}
use Rattle.layout.specs.Layout.{number}
use Rattle.signed.proofs.SignedLaws.{SignRules, sign_exactly}
use Rattle.meinberg_gps_position.specs.Aligned.{are_digits, right_aligned}
use Rattle.meinberg_gps_position.specs.Position.{latitude, longitude, angle_magnitude}
use Rattle.meinberg_gps_position.specs.Position.{angle_digits, position_digits, in_range, position_fault}
use Rattle.meinberg_gps_position.specs.Rules.{DigitsAt, WholePart, four_digits_at, latitude_magnitude}
use Rattle.meinberg_gps_position.specs.Rules.{longitude_magnitude}
use Rattle.meinberg_gps_position.specs.Rules.{PositionRules}
use Rattle.meinberg_gps_position.proofs.AlignedLaws.{aligned_ways, aligned_blank}
use Rattle.meinberg_gps_position.proofs.AlignedWrittenLaws.{high_first}
use Rattle.meinberg_gps_position.proofs.PositionLaws.{faultless}

-- ---- digits
digit_stands : (b : ℕ) → (is_digit b ≡ true) ↔ ((48 ≤ b) × (b ≤ 57))
unfolding is_digit
digit_stands b = (λ h. let r = digit_range b h in (r.0, r.1), λ r. simp (le-leb 48 b r.0, le-leb b 57 r.1))

digits_stand : (s : List ℕ) (n first end : ℕ) → end ≡ first + n → are_digits (slice first (suc n) s) ≡ true
    → DigitsAt s first end
unfolding are_digits
digits_stand s zero first end e h i lo hi =
    let same : i ≡ first = omega arith in
    rw same ((digit_stands (get_or s first 0)).0 (both (is_digit (get_or s first 0)) true h).0)
digits_stand s (suc n) first end e h i lo hi =
    let w = both (is_digit (get_or s first 0)) (are_digits (slice (suc first) (suc n) s)) h in
    by_cases (ℕ_discrete i first) (λ same. rw same ((digit_stands (get_or s first 0)).0 w.0)) λ other.
    digits_stand s n (suc first) end (omega (arith, e)) w.1 i (omega (arith, lo, other)) hi

stand_digits : (s : List ℕ) (n first end : ℕ) → end ≡ first + n → DigitsAt s first end
    → are_digits (slice first (suc n) s) ≡ true
unfolding are_digits
stand_digits s zero first end e d =
    simp ((digit_stands (get_or s first 0)).1 (d first (omega arith) (omega (arith, e))))
stand_digits s (suc n) first end e d =
    simp (
      (digit_stands (get_or s first 0)).1 (d first (omega arith) (omega (arith, e))),
      stand_digits s n (suc first) end (omega (arith, e)) (λ i lo hi. d i (omega (arith, lo)) hi),
    )

-- ---- whole parts
aligned_whole : (s : List ℕ) (n first end : ℕ) → end ≡ first + n → right_aligned (slice first (suc n) s) ≡ true
    → WholePart s first end
unfolding right_aligned are_digits
aligned_whole s zero first end e h =
    record {
      start = first;
      within = omega arith;
      blanks = λ i lo hi. absurd (omega arith);
      digits = digits_stand s 0 first end e (simp h);
      present = omega arith;
      needless = λ more z. omega arith;
    }
aligned_whole s (suc n) first end e h =
    ⊎_elim (λ w. after w.0 (aligned_whole s n (suc first) end (omega (arith, e)) w.1))
    (λ w. here w.0 w.1 w.2)
    (aligned_ways (get_or s first 0) (get_or s (suc first) 0) (slice (suc (suc first)) n s) h)
  where
    after : get_or s first 0 ≡ 32 → WholePart s (suc first) end → WholePart s first end
    after b w =
        record {
          start = w.start;
          within = omega (arith, w.within);
          blanks = λ i lo hi. by_cases (ℕ_discrete i first) (λ same. rw same b)
              (λ other. w.blanks i (omega (arith, lo, other)) hi);
          digits = w.digits;
          present = w.present;
          needless = w.needless;
        }

    here : 49 ≤ get_or s first 0 → get_or s first 0 ≤ 57 → are_digits (slice (suc first) (suc n) s) ≡ true
        → WholePart s first end
    here lo hi d =
        record {
          start = first;
          within = omega arith;
          blanks = λ i low high. absurd (omega (arith, low, high));
          digits = λ i low high. by_cases (ℕ_discrete i first) (λ same. rw same (omega (arith, lo), hi))
              (λ other. digits_stand s n (suc first) end (omega (arith, e)) d i (omega (arith, low, other)) high);
          present = omega (arith, e);
          needless = λ more z. omega (arith, lo, z);
        }

whole_aligned : (s : List ℕ) (n first end : ℕ) → end ≡ first + n → WholePart s first end
    → right_aligned (slice first (suc n) s) ≡ true
unfolding right_aligned
whole_aligned s zero first end e w =
    let d = w.digits first (omega (arith, e, w.within, w.present)) (omega (arith, e)) in
    (digit_stands (get_or s first 0)).1 d
whole_aligned s (suc n) first end e w =
    by_cases (ℕ_discrete w.start first)
    (λ same.
    let d : DigitsAt s first end = rw same at w.digits in
    let byte = d first (omega arith) (omega (arith, e)) in
    let some : get_or s first 0 ≡ 48 → ⊥ = rw same at w.needless (omega (arith, same, e)) in
    let rest = stand_digits s n (suc first) end (omega (arith, e)) (λ i lo hi. d i (omega (arith, lo)) hi) in
    high_first (get_or s first 0) (get_or s (suc first) 0) (slice (suc (suc first)) n s)
    (omega (arith, byte.0, some)) (omega (arith, byte.1)) rest)
    λ later.
    let b = w.blanks first (omega arith) (omega (arith, w.within, later)) in
    let rest : WholePart s (suc first) end =
    record {
      start = w.start;
      within = omega (arith, w.within, later);
      blanks = λ i lo hi. w.blanks i (omega (arith, lo)) hi;
      digits = w.digits;
      present = w.present;
      needless = w.needless;
    } in
    rw b
    (aligned_blank (get_or s (suc first) 0) (slice (suc (suc first)) n s)
    ∙ whole_aligned s n (suc first) end (omega (arith, e)) rest)

-- ---- magnitudes
module _ (s : List ℕ) where
  pub latitude_magnitude_lem : angle_magnitude latitude s ≡ latitude_magnitude s
  unfolding value_from
  latitude_magnitude_lem = omega arith

  pub longitude_magnitude_lem : angle_magnitude longitude s ≡ longitude_magnitude s
  unfolding value_from
  longitude_magnitude_lem = omega arith

  pub height_number : number 4 60 s ≡ four_digits_at s 60
  unfolding value_from
  height_number = omega arith

-- ---- positions
module _ (s : List ℕ) where
  latitude_signs : (in_range latitude s ≡ true) ↔ SignRules 78 83 900000 (get_or s 48 0) (latitude_magnitude s)
  unfolding in_range
  latitude_signs = rw (latitude_magnitude_lem s) (sign_exactly 78 83 900000 (get_or s 48 0) (latitude_magnitude s))

  longitude_signs : (in_range longitude s ≡ true) ↔ SignRules 69 87 1800000 (get_or s 58 0) (longitude_magnitude s)
  unfolding in_range
  longitude_signs = rw (longitude_magnitude_lem s) (sign_exactly 69 87 1800000 (get_or s 58 0) (longitude_magnitude s))

  fault_rules : position_fault s ≡ false → PositionRules s
  fault_rules h =
      let f = faultless s h in
      let d = f.stand in
      let lat = latitude_signs.0 f.latitude_range in
      let lon = longitude_signs.0 f.longitude_range in
      record {
        latitude_degrees = aligned_whole s 1 41 42 refl d.latitude_digits.whole;
        longitude_degrees = aligned_whole s 2 50 52 refl d.longitude_digits.whole;
        height = aligned_whole s 3 60 63 refl d.height_aligned;
        latitude_decimals = digits_stand s 3 44 47 refl d.latitude_digits.after;
        longitude_decimals = digits_stand s 3 54 57 refl d.longitude_digits.after;
        latitude_letter = lat.sign;
        longitude_letter = lon.sign;
        latitude_most = lat.most;
        longitude_most = lon.most;
        south_zero = lat.zero;
        west_zero = lon.zero;
      }

  rules_fault : PositionRules s → position_fault s ≡ false
  unfolding position_fault position_digits angle_digits
  rules_fault r =
      simp (
        whole_aligned s 1 41 42 refl r.latitude_degrees,
        whole_aligned s 2 50 52 refl r.longitude_degrees,
        whole_aligned s 3 60 63 refl r.height,
        stand_digits s 3 44 47 refl r.latitude_decimals,
        stand_digits s 3 54 57 refl r.longitude_decimals,
        latitude_signs.1 (record { sign = r.latitude_letter; most = r.latitude_most; zero = r.south_zero }),
        longitude_signs.1 (record { sign = r.longitude_letter; most = r.longitude_most; zero = r.west_zero }),
      )

  -- a position has no fault exactly if the rules hold
  pub position_exactly : (position_fault s ≡ false) ↔ PositionRules s
  position_exactly = (fault_rules, rules_fault)
