-- Every number that passes is that of a minute: the one with its date, its time and its flags, and no first marks.
use Prim.Native.Nat.{ℕ, ◌+◌, ◌-◌, ◌*◌, ◌/◌, ◌%◌, ◌≤◌, ◌<◌}
use native.Mathlib.Omega.{arith}
use native.Mathlib.Decide.{ℕ_discrete}
use mathlib.Core.Path.{◌≡◌, refl}
use mathlib.Core.Bool.{Bool, true, false, not, ◌&&◌}
use lib.Dec.{eqb}
use lib.IntN.{pos}
use borrow.Author.Tests.{lt-ltb, eq-eqb, ne_eqb}
use Rattle.clock_time.specs.Errors.{accepted}
use Rattle.clock_time.specs.Zone.{cet_offset}
use Rattle.clock_time.specs.Same.{eq_ℤ}
use Rattle.clock_time.proofs.SameLaws.{eq_ℤ_refl}
use Rattle.clock_time.proofs.Tests.{both}
use Rattle.gregorian.proofs.RulesLaws.{supported_exactly}
use Rattle.calendar.specs.Date.{weekday_number}
use Rattle.calendar.specs.TimeOfDay.{time_exists}
use Rattle.calendar.proofs.DaysLaws.{Dated, counted, date_of}
use Rattle.calendar.proofs.RepresentableLaws.{checked_representable}
use Rattle.calendar.proofs.ValidLaws.{zone_in_range}
use Rattle.dcf77.specs.Minute.{mark}
use Rattle.dcf77.specs.Writable.{fields_representable, minute_representable}
use Rattle.dcf77.specs.declared.MinuteTime.{MinuteTime}
use Rattle.dcf77_outcome.specs.Number.{outcome_number}
use Rattle.dcf77_outcome.specs.Instant.{in_hundred_years, is_minute_number}
use Rattle.dcf77_outcome.proofs.InstantLaws.{number_range}
use Rattle.dcf77_outcome.proofs.RunLaws.{zone_summer}

bit_mark : (b : ℕ) → b ≤ 1 → mark (eqb b 1) ≡ b
bit_mark b h = elim (ℕ_discrete b 1) [
  | yes e ↦ rw (eq-eqb b 1 e) (omega arith)
  | no d ↦ rw (ne_eqb b 1 d) (omega arith)
]

zone_mark : (b : ℕ) → b ≤ 1 → mark (eq_ℤ (cet_offset (eqb b 1)) (pos 120)) ≡ b
zone_mark b h = rw (zone_summer (eqb b 1)) (bit_mark b h)

-- a number by its five lowest bits, and by days, hours and minutes
five : (s a b c d e ra rb rc rd re : ℕ) → s ≡ 2 * a + ra → a ≡ 2 * b + rb → b ≡ 2 * c + rc → c ≡ 2 * d + rd
    → d ≡ 2 * e + re → s ≡ 32 * e + 16 * re + 8 * rd + 4 * rc + 2 * rb + ra
five s a b c d e ra rb rc rd re h i j k l = omega arith

by_bits : (s : ℕ)
    → s ≡ 32 * (s / 32) + 16 * (s / 16 % 2) + 8 * (s / 8 % 2) + 4 * (s / 4 % 2) + 2 * (s / 2 % 2) + s / 1 % 2
by_bits s =
    five s (s / 2) (s / 4) (s / 8) (s / 16) (s / 32) (s / 1 % 2) (s / 2 % 2) (s / 4 % 2) (s / 8 % 2) (s / 16 % 2)
    (omega arith) (omega arith) (omega arith) (omega arith) (omega arith)

by_days : (l : ℕ) → 1440 * (l / 1440) + 60 * (l / 60 % 24) + l % 60 ≡ l
by_days l = omega arith

joined : (n s l b16 b8 b4 b2 b1 : ℕ) → 100 ≤ n → s ≡ n - 100 → s ≡ 32 * l + 16 * b16 + 8 * b8 + 4 * b4 + 2 * b2 + b1
    → 100 + 32 * l + 16 * b16 + 8 * b8 + 4 * b4 + 2 * b2 + b1 ≡ n
joined n s l b16 b8 b4 b2 b1 h e f = omega arith

abbrev minutes : ℕ → ℕ
minutes n = (n - 100) / 32

abbrev bit : ℕ → ℕ → Bool
bit much n = eqb ((n - 100) / much % 2) 1

-- the minute with the number n, on a date
abbrev minute_of : (n : ℕ) → Dated (minutes n / 1440) → MinuteTime
minute_of n d =
    record {
      time =
          record {
            year = d.year;
            month = d.month;
            day = d.day;
            weekday = weekday_number d.year d.month d.day;
            hour = minutes n / 60 % 24;
            minute = minutes n % 60;
            second = 0;
            utc_offset = cet_offset (bit 8 n);
            unsynchronised = false;
            unverified = false;
            summer_time = bit 8 n;
            dst_change_announced = bit 2 n;
            leap_second_announced = bit 1 n;
            alternate_antenna = bit 4 n;
          };
      detail = record { first_marks = 0; sixty = bit 16 n };
    }

module _ (n : ℕ) (h : is_minute_number n ≡ true) where
  passes : (in_hundred_years n ≡ true)
      × (not (bit 16 n && not (eqb ((n - 100) % 2) 1 && eqb (minutes n % 60) 0)) ≡ true)
  unfolding is_minute_number
  passes = both (in_hundred_years n) _ h

  days : (d : Dated (minutes n / 1440)) × (d.year ≤ 2069)
  days = let r = number_range n passes.0 in date_of (minutes n / 1440) (omega (arith, r.0, r.1))

  last_bit : (n - 100) / 1 % 2 ≡ (n - 100) % 2
  last_bit = omega arith

  represented : minute_representable (minute_of n days.0) ≡ true
  unfolding minute_representable fields_representable time_exists weekday_number
  represented =
      let d = days.0 in
      let c = counted d.date in
      let date = (supported_exactly d.year d.month d.day).1 (c.1, days.1, c.0) in
      let hour : minutes n / 60 % 24 < 24 = omega arith in
      let sixtieth : minutes n % 60 < 60 = omega arith in
      let time : time_exists (minutes n / 60 % 24) (minutes n % 60) 0 (cet_offset (bit 8 n)) ≡ true =
      simp (lt-ltb _ _ hour, lt-ltb _ _ sixtieth) in
      let reading =
      checked_representable (minute_of n d).time date time (omega arith) (omega arith)
      (zone_in_range false (bit 8 n)) in
      simp (rw (← last_bit) at passes.1, eq_ℤ_refl (cet_offset (bit 8 n)), reading)

  number : outcome_number (accepted (minute_of n days.0)) ≡ n
  number =
      let d = days.0 in
      rw (
        ← (counted d.date).2,
        by_days (minutes n),
        bit_mark ((n - 100) / 16 % 2) (omega arith),
        zone_mark ((n - 100) / 8 % 2) (omega arith),
        bit_mark ((n - 100) / 4 % 2) (omega arith),
        bit_mark ((n - 100) / 2 % 2) (omega arith),
        bit_mark ((n - 100) / 1 % 2) (omega arith),
      )
      (joined n (n - 100) (minutes n) _ _ _ _ _ (number_range n passes.0).0 refl (by_bits (n - 100)))

  pub number_minute : (a : MinuteTime) × ((minute_representable a ≡ true) × (outcome_number (accepted a) ≡ n))
  number_minute = (minute_of n days.0, (represented, number))
