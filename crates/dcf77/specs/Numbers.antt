-- What the private functions require and ensure: runs of marks as numbers.
use Rattle.std.specs.Prelude.{ℕ, ◌+◌, ◌*◌, ◌/◌, ◌%◌, ◌≤◌, ◌≡◌, true, not, ◌&&◌, List, [], ◌∷◌, leb, ltb, eqb, length, get_or}
use Rattle.std.specs.Int.Count.{ones}
use Rattle.clock_time.specs.Errors.{Check, given}
use Rattle.gregorian.specs.Date.{date_exists}
use Rattle.dcf77.specs.Marks.{long, short, all_sure, binary}

-- a run that is long enough, of sure marks
pub record Sure (m : List ℕ) : Type 0 where
  pub long : 59 ≤ length m
  pub sure : all_sure m ≡ true

-- such a run, with the numbers that its three groups with a parity, 21..28, 29..35 and 36..58, stand for
pub record Numbers (m : List ℕ) (n h d : ℕ) : Type 0 where
  pub run : Sure m
  pub minute : n ≡ binary 8 21 m
  pub hour : h ≡ binary 7 29 m
  pub date : d ≡ binary 23 36 m

-- four bytes from a place on as one number
abbrev pub four_bytes : ℕ → List ℕ → ℕ
four_bytes at m = get_or m at 0 + 256 * (get_or m (at + 1) 0 + 256 * (get_or m (at + 2) 0 + 256 * get_or m (at + 3) 0))

-- the checks after those of the length and of sure marks, on what the code has in hand
abbrev pub start_checks : List ℕ → List Check
start_checks m = given 13 (not (short 0 m && long 20 m)) ∷ given 14 (eqb (get_or m 17 0) (get_or m 18 0)) ∷ []

-- the checks of the numbers: parities, and digits above 9
abbrev pub number_checks : ℕ → ℕ → ℕ → List Check
number_checks n h d =
    given 15 (not (eqb (ones n % 2) 0))
    ∷ given 16 (not (eqb (ones h % 2) 0))
    ∷ given 17 (not (eqb (ones d % 2) 0))
    ∷ given 18
    (not
    (leb (n % 16) 9 && leb (h % 16) 9 && leb (d % 16) 9 && leb (d / 512 % 16) 9 && leb (d / 16384 % 16) 9
    && leb (d / 262144 % 16) 9))
    ∷ []

-- the checks of the weekday and the date
abbrev pub date_checks : ℕ → ℕ → ℕ → ℕ → List Check
date_checks weekday year month day =
    given 7 (not (leb 1 weekday && leb weekday 7)) ∷ given 5 (not (date_exists year month day)) ∷ []

-- the checks of the time of day and of 60 marks
abbrev pub time_checks : List ℕ → ℕ → ℕ → List Check
time_checks m hour minute =
    given 6 (not (ltb hour 24 && ltb minute 60))
    ∷ given 19 (eqb (length m) 60 && not (long 19 m && short 59 m && eqb minute 0))
    ∷ []
