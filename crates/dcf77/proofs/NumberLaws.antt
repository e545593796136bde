-- The fields and the parities of a run, taken from the numbers of its three groups.
use Prim.Native.Nat.{ℕ, ◌/◌, ◌%◌}
use mathlib.Core.Path.{◌≡◌}
use mathlib.Core.Bool.{not, ◌&&◌}
use mathlib.Core.List.{List}
use lib.Dec.{leb, eqb}
use lib.Count.{ones}
use Rattle.dcf77.specs.Marks.{binary, is_odd}
use Rattle.dcf77.specs.Numbers.{Sure, Numbers}
use Rattle.dcf77.proofs.MarkLaws.{binary_first, binary_field, ones_binary}

-- the parity of a group of marks is that of its number's bits
pub group_odd : {m : List ℕ} {n : ℕ} → Sure m → (k at : ℕ) → n ≡ binary k at m
    → not (eqb (ones n % 2) 0) ≡ is_odd k at m
unfolding is_odd
group_odd {m} s k at h = rw (h, ones_binary m s.sure k at)

module _ {m : List ℕ} {n h d : ℕ} (k : Numbers m n h d) where
  pub minute_ones : n % 16 ≡ binary 4 21 m
  minute_ones = rw k.minute (binary_first m k.run.sure 4 4 21)

  pub minute_tens_lem : n / 16 % 8 ≡ binary 3 25 m
  minute_tens_lem = rw k.minute (binary_field m k.run.sure 4 3 1 21)

  pub hour_ones : h % 16 ≡ binary 4 29 m
  hour_ones = rw k.hour (binary_first m k.run.sure 4 3 29)

  pub hour_tens_lem : h / 16 % 4 ≡ binary 2 33 m
  hour_tens_lem = rw k.hour (binary_field m k.run.sure 4 2 1 29)

  pub day_ones : d % 16 ≡ binary 4 36 m
  day_ones = rw k.date (binary_first m k.run.sure 4 19 36)

  pub day_tens_lem : d / 16 % 4 ≡ binary 2 40 m
  day_tens_lem = rw k.date (binary_field m k.run.sure 4 2 17 36)

  pub weekday_number_lem : d / 64 % 8 ≡ binary 3 42 m
  weekday_number_lem = rw k.date (binary_field m k.run.sure 6 3 14 36)

  pub month_ones : d / 512 % 16 ≡ binary 4 45 m
  month_ones = rw k.date (binary_field m k.run.sure 9 4 10 36)

  pub month_tens_lem : d / 8192 % 2 ≡ binary 1 49 m
  month_tens_lem = rw k.date (binary_field m k.run.sure 13 1 9 36)

  pub year_ones : d / 16384 % 16 ≡ binary 4 50 m
  year_ones = rw k.date (binary_field m k.run.sure 14 4 5 36)

  pub year_tens : d / 262144 % 16 ≡ binary 4 54 m
  year_tens = rw k.date (binary_field m k.run.sure 18 4 1 36)

  pub digits_fit : (leb (n % 16) 9 && leb (h % 16) 9 && leb (d % 16) 9 && leb (d / 512 % 16) 9 && leb (d / 16384 % 16) 9
      && leb (d / 262144 % 16) 9) ≡ (leb (binary 4 21 m) 9 && leb (binary 4 29 m) 9 && leb (binary 4 36 m) 9
      && leb (binary 4 45 m) 9 && leb (binary 4 50 m) 9 && leb (binary 4 54 m) 9)
  digits_fit = simp (minute_ones, hour_ones, day_ones, month_ones, year_ones, year_tens)
