-- The checks of a Trimble string one by one, and those of the numbers that it can give.
use Rattle.std.proofs.Common.{ℕ, Bool, false, not, ◌&&◌, ◌||◌, eqb, leb, List, [], ◌∷◌, ◌++◌, length}
use Rattle.clock_time.specs.Errors.{Check, given}
use Rattle.gregorian.specs.Date.{date_exists, first_year, last_year}
use Rattle.calendar.specs.Date.{weekday_or_zero}
use Rattle.calendar.specs.TimeOfDay.{time_exists}
use Rattle.layout.specs.Layout.{number, has, found}
use Rattle.layout.specs.Text.{supported_day}
use Rattle.trimble_sv6.specs.Sum.{sum_holds}
use Rattle.trimble_sv6.specs.Trimble.{trimble_layout, sent_fields}

abbrev pub shape_checks : List ℕ → List Check
shape_checks s =
    given 1 (not (eqb (length trimble_layout) (length s)))
    ∷ given 2 (found 2 trimble_layout s)
    ∷ given 3 (found 3 trimble_layout s)
    ∷ []

abbrev pub flag_check : List ℕ → Check
flag_check s = given 4 (found 4 trimble_layout s || false)

abbrev pub own_checks : List ℕ → List Check
own_checks s = given 24 (not (sum_holds s)) ∷ given 25 (not (has "1" 26 s)) ∷ []

-- the year is from 1970 to 2069
abbrev pub in_years : List ℕ → Bool
in_years s = leb first_year (number 4 17 s) && leb (number 4 17 s) last_year

-- there is such a date, in whatever year
abbrev pub has_date : List ℕ → Bool
has_date s = date_exists (number 4 17 s) (number 2 15 s) (number 2 13 s)

abbrev pub date_check : List ℕ → Check
date_check s = given 5 (not (supported_day (sent_fields s)))

abbrev pub time_check : List ℕ → Check
time_check s =
    let t = sent_fields s in
    given 6 (not (time_exists t.hour t.minute t.second t.utc_offset) || false)

abbrev pub weekday_check : List ℕ → Check
weekday_check s =
    let w = weekday_or_zero (number 4 17 s) (number 2 15 s) (number 2 13 s) in given 7 (not (leb 1 w && leb w 7))

-- 1, 2, 3, 24, 25, 5, 6
abbrev pub trimble_checks : List ℕ → List Check
trimble_checks s = shape_checks s ++ own_checks s ++ (date_check s ∷ time_check s ∷ [])
