-- The instant in an accepted minute's number is that of the minute.
use Prim.Native.Nat.{ℕ, ◌+◌, ◌-◌, ◌*◌, ◌/◌, ◌%◌, ◌≤◌}
use native.Mathlib.Omega.{arith}
use native.Mathlib.Decide.{dec_le}
use mathlib.Core.Path.{◌≡◌, refl, sym, ◌∙◌}
use mathlib.Core.Bool.{Bool, true, false, not, ◌||◌}
use mathlib.Core.List.{List}
use mathlib.Core.Logic.{by_cases}
use lib.Dec.{leb, eqb, ltb}
use lib.IntN.{pos}
use borrow.Author.Tests.{leb-true, le-leb, lt-leb, le-ltb, lt-ltb, not-true, not-false}
use Rattle.clock_time.specs.Errors.{accepted}
use Rattle.clock_time.proofs.Tests.{both}
use Rattle.clock_time.specs.Zone.{cet_offset}
use Rattle.clock_time.specs.Same.{eq_ℤ}
use Rattle.calendar.specs.Date.{days_since_epoch}
use Rattle.calendar.specs.UnixTime.{instant_of, unix_time}
use Rattle.calendar.proofs.DateLaws.{days_small}
use Rattle.dcf77.specs.Minute.{mark, read_minute}
use Rattle.dcf77.specs.declared.MinuteTime.{MinuteTime}
use Rattle.dcf77.proofs.AcceptLaws.{read_valid}
use Rattle.dcf77.proofs.FitLaws.{Fits, fits}
use Rattle.dcf77.proofs.Theorems.{read_is_written}
use Rattle.dcf77_outcome.specs.Number.{outcome_number}
use Rattle.dcf77_outcome.specs.Instant.{in_hundred_years, is_minute_number, outcome_instant, outcome_unix_time}
use Rattle.dcf77_outcome.proofs.RunLaws.{zone_summer}

-- the code's test of a number
pub range_test : (n : ℕ) → (ltb n 100 || ltb 1683072099 n) ≡ not (in_hundred_years n)
unfolding in_hundred_years
range_test n =
    by_cases (dec_le 100 n)
    (λ a.
    by_cases (dec_le n 1683072099)
    (λ b. simp (le-ltb n 100 a, le-ltb 1683072099 n b, le-leb 100 n a, le-leb n 1683072099 b))
    λ b. simp (
      le-ltb n 100 a,
      lt-ltb 1683072099 n (omega arith),
      le-leb 100 n a,
      lt-leb n 1683072099 (omega arith),
    ))
    λ a. simp (lt-ltb n 100 (omega arith), lt-leb 100 n (omega arith))

pub number_out : (n : ℕ) → (ltb n 100 || ltb 1683072099 n) ≡ true → is_minute_number n ≡ false
unfolding is_minute_number
number_out n h =
    let out : in_hundred_years n ≡ false = not-true (in_hundred_years n) (sym (range_test n) ∙ h) in
    rw out

pub number_in : (n : ℕ) → (ltb n 100 || ltb 1683072099 n) ≡ false → in_hundred_years n ≡ true
number_in n h = not-false (in_hundred_years n) (sym (range_test n) ∙ h)

pub number_range : (n : ℕ) → in_hundred_years n ≡ true → (100 ≤ n) × (n ≤ 1683072099)
unfolding in_hundred_years
number_range n h =
    let w = both (leb 100 n) (leb n 1683072099) h in
    (leb-true _ _ w.0, leb-true _ _ w.1)

pub number_least : (n : ℕ) → is_minute_number n ≡ true → 100 ≤ n
unfolding is_minute_number
number_least n h = (number_range n (both (in_hundred_years n) _ h).0).0

mark_most : (b : Bool) → mark b ≤ 1
mark_most true = omega arith
mark_most false = omega arith

mark_set : (b : Bool) → eqb (mark b) 1 ≡ b
mark_set true = refl
mark_set false = refl

-- what a number is made of is in it: its minutes, and each of its bits
module _ (l s o an ch le : ℕ) (hs : s ≤ 1) (ho : o ≤ 1) (ha : an ≤ 1) (hc : ch ≤ 1) (hl : le ≤ 1) where
  pub minutes_in : (100 + 32 * l + 16 * s + 8 * o + 4 * an + 2 * ch + le - 100) / 32 ≡ l
  minutes_in = omega arith

  pub sixty_in : (100 + 32 * l + 16 * s + 8 * o + 4 * an + 2 * ch + le - 100) / 16 % 2 ≡ s
  sixty_in = omega arith

  pub offset_in : (100 + 32 * l + 16 * s + 8 * o + 4 * an + 2 * ch + le - 100) / 8 % 2 ≡ o
  offset_in = omega arith

  pub leap_in : (100 + 32 * l + 16 * s + 8 * o + 4 * an + 2 * ch + le - 100) % 2 ≡ le
  leap_in = omega arith

-- ---- the number of an accepted minute
module _ (m : List ℕ) (a : MinuteTime) (h : read_minute m ≡ accepted a) where
  -- each of the five adds its bit once at most
  s : mark a.detail.sixty ≤ 1
  s = mark_most a.detail.sixty

  o : mark (eq_ℤ a.time.utc_offset (pos 120)) ≤ 1
  o = mark_most (eq_ℤ a.time.utc_offset (pos 120))

  an : mark a.time.alternate_antenna ≤ 1
  an = mark_most a.time.alternate_antenna

  ch : mark a.time.dst_change_announced ≤ 1
  ch = mark_most a.time.dst_change_announced

  le : mark a.time.leap_second_announced ≤ 1
  le = mark_most a.time.leap_second_announced

  fit : Fits a
  fit = fits a ((read_is_written m a).0 h).0

  zone : cet_offset (eq_ℤ a.time.utc_offset (pos 120)) ≡ a.time.utc_offset
  zone = rw fit.zone (rw (zone_summer a.time.summer_time))

  in_range_lem : in_hundred_years (outcome_number (accepted a)) ≡ true
  unfolding in_hundred_years
  in_range_lem =
      let t = a.time in
      let days = days_small t.year t.month t.day fit.supported_date_lem in
      simp (
        le-leb 100 (outcome_number (accepted a)) (omega arith),
        le-leb (outcome_number (accepted a)) 1683072099
            (omega (arith, days, fit.hour, fit.minute, s, o, an, ch, le)),
      )

  pub has_number : is_minute_number (outcome_number (accepted a)) ≡ true
  unfolding is_minute_number
  has_number =
      let t = a.time in
      let days = days_since_epoch t.year t.month t.day in
      let minute : (1440 * days + 60 * t.hour + t.minute) % 60 ≡ t.minute = omega (arith, fit.minute) in
      rw (
        in_range_lem,
        minutes_in _ _ _ _ _ _ s o an ch le,
        sixty_in _ _ _ _ _ _ s o an ch le,
        leap_in _ _ _ _ _ _ s o an ch le,
        mark_set a.detail.sixty,
        mark_set t.leap_second_announced,
        minute,
        fit.leap,
      )

  instant_same : outcome_instant (outcome_number (accepted a)) ≡ instant_of a.time
  unfolding outcome_instant instant_of
  instant_same =
      let t = a.time in
      let days = days_since_epoch t.year t.month t.day in
      let seconds : 60 * (1440 * days + 60 * t.hour + t.minute)
      ≡ 86400 * days + (3600 * t.hour + 60 * t.minute + t.second) = omega (arith, fit.second) in
      rw (minutes_in _ _ _ _ _ _ s o an ch le, offset_in _ _ _ _ _ _ s o an ch le)
      (rw (mark_set (eq_ℤ t.utc_offset (pos 120)), zone, seconds))

  pub accepted_instant : outcome_unix_time (outcome_number (accepted a)) ≡ unix_time a.time
  unfolding outcome_unix_time unix_time
  accepted_instant = rw (has_number, instant_same, read_valid m a h)
