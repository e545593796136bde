-- Laws of days and weekdays: the months and the count of leap days, each by one computed test.
use Prim.Native.Nat.{ℕ, ◌+◌, ◌-◌, ◌*◌, ◌/◌, ◌%◌, ◌≤◌, ◌<◌}
use native.Mathlib.Omega.{arith}
use native.Mathlib.Decide.{ℕ_discrete}
use mathlib.Core.Path.{◌≡◌, refl}
use mathlib.Core.Bool.{Bool, true, false, cond, not, ◌&&◌, ◌||◌}
use mathlib.Core.List.{[], ◌∷◌}
use lib.Dec.{leb, ltb, eqb, eqb→eq, leb→le}
use lib.ListN.{get_or, take}
use mir.Val.{bool_byte}
use borrow.Author.Tests.{ltb-true, eq-eqb, ne_eqb}
use Rattle.clock_time.specs.Errors.{accepted, refused, given, checked}
use Rattle.clock_time.proofs.Tests.{below_at}
use Rattle.clock_time.specs.Lists.{sum}
use Rattle.gregorian.specs.Date.{is_leap_year, month_lengths, days_in_month, first_year, last_year, supported_date}
use Rattle.gregorian.proofs.DateLaws.{every_fourth, every_month, known}
use Rattle.gregorian.proofs.RulesLaws.{most_days, supported_exactly}
use Rattle.calendar.specs.Date.{days_of_years, days_before_month, days_since_epoch, day_number}
use Rattle.calendar.specs.Date.{weekday_number, weekday_of, weekday_or_zero}

pub from_march : (month : ℕ) → 3 * bool_byte (ltb 2 month) ≤ month
from_march month = go (ltb 2 month) refl
  where
    go : (t : Bool) → ltb 2 month ≡ t → 3 * bool_byte t ≤ month
    go true e = omega (arith, ltb-true 2 month e)
    go false e = omega arith

before_test : Bool → ℕ → Bool
before_test leap month =
    eqb month 0
    || eqb (489 * month / 16 + bool_byte (ltb 2 month && leap))
    (30 + 2 * bool_byte (ltb 2 month) + sum (take (month - 1) (month_lengths leap)))

-- 489 / 16 days a month are 30 days more than those before it, and from March on two more, less a leap day
days_before : (leap : Bool) (month : ℕ) → 1 ≤ month → month ≤ 12
    → 489 * month / 16 + bool_byte (ltb 2 month && leap)
    ≡ 30 + 2 * bool_byte (ltb 2 month) + sum (take (month - 1) (month_lengths leap))
unfolding before_test month_lengths
days_before leap month one h =
    let test = every_month before_test tt tt leap month h in
    eqb→eq _ _ (rw (ne_eqb month 0 (λ z. omega (arith, z))) at test)

before_small : (leap : Bool) (month : ℕ) → month ≤ 12 → sum (take (month - 1) (month_lengths leap)) ≤ 335
unfolding month_lengths
before_small leap month h =
    leb→le _ _ (every_month (λ l m. leb (sum (take (m - 1) (month_lengths l))) 335) tt tt leap month h)

-- of the hundred years from 1970 on every fourth has a leap day, 1972 first
days_of_years_lem : (years : ℕ) → years < 100 → days_of_years 1970 years ≡ 365 * years + (years + 1) / 4
unfolding days_of_years is_leap_year month_lengths
days_of_years_lem years h =
    eqb→eq _ _ (below_at 100 (λ n. eqb (days_of_years 1970 n) (365 * n + (n + 1) / 4)) tt years h)

-- from March on the year's own leap day is counted with those of the years before
leap_days : (year : ℕ) (march : Bool) → 1970 ≤ year → year ≤ 2069
    → (year - 1970 + 1 + bool_byte march) / 4 ≡ (year - 1970 + 1) / 4 + bool_byte (march && is_leap_year year)
leap_days year false first last = omega arith
leap_days year true first last = rw (every_fourth year (omega arith) (omega arith)) (elim (ℕ_discrete (year % 4) 0) [
  | yes e ↦ simp (eq-eqb (year % 4) 0 e) (omega arith)
  | no d ↦ simp (ne_eqb (year % 4) 0 d) (omega arith)
])

pub day_known : (year month day : ℕ) → supported_date first_year last_year year month day ≡ true
    → day_number year month day ≡ accepted (days_since_epoch year month day)
unfolding day_number
day_known year month day h = simp h

-- a weekday is at least 1, so that 0 stands for no such date
pub weekday_answer : (year month day : ℕ) → weekday_of year month day
    ≡ cond (eqb (weekday_or_zero year month day) 0) (refused 5) (accepted (weekday_or_zero year month day))
unfolding weekday_of weekday_or_zero weekday_number
weekday_answer year month day =
    go (supported_date first_year last_year year month day) ((days_since_epoch year month day + 3) % 7)
  where
    go : (t : Bool) (n : ℕ) → checked (given 5 (not t) ∷ []) (1 + n)
        ≡ cond (eqb (cond t (1 + n) 0) 0) (refused 5) (accepted (cond t (1 + n) 0))
    go true n = simp (ne_eqb (1 + n) 0 (λ z. omega (arith, z)))
    go false n = refl

-- the leap days and the months' days add up, whichever of them has the year's own leap day
apart : (n leaps own more whole march before day : ℕ) → 1 ≤ day → more ≡ leaps + own → whole + own ≡ 30 + march + before
    → n + (more + whole + day - 31 - march) ≡ n + leaps + before + (day - 1)
apart n leaps own more whole march before day h e f = omega arith

-- the sum of the code
pub days_sum : (year month day : ℕ) → supported_date first_year last_year year month day ≡ true
    → 365 * (year - 1970)
    + ((year - 1970 + 1 + bool_byte (ltb 2 month)) / 4 + 489 * month / 16 + day - 31 - 2 * bool_byte (ltb 2 month))
    ≡ days_since_epoch year month day
unfolding days_since_epoch days_before_month
days_sum year month day h =
    let k = known year month day h in
    let leaps = leap_days year (ltb 2 month) k.year_least k.year_most in
    rw (days_of_years_lem (year - 1970) (omega arith))
    (apart (365 * (year - 1970)) _ _ _ (489 * month / 16) _ _ day k.day_least leaps
    (days_before (is_leap_year year) month k.month_least k.month_most))

-- a month ends with its year or before
end_test : Bool → ℕ → Bool
end_test leap month =
    leb (sum (take (month - 1) (month_lengths leap)) + get_or (0 ∷ month_lengths leap) month 0) (sum (month_lengths leap))

month_ends : (year month : ℕ) → month ≤ 12
    → days_before_month year month + days_in_month year month ≤ sum (month_lengths (is_leap_year year))
unfolding end_test days_before_month days_in_month month_lengths
month_ends year month h = leb→le _ _ (every_month end_test tt tt (is_leap_year year) month h)

-- the hundred years from 1970 on have 36,525 days
years_end : (n : ℕ) → n < 100 → days_of_years 1970 n + sum (month_lengths (is_leap_year (1970 + n))) ≤ 36525
unfolding days_of_years is_leap_year month_lengths
years_end n h =
    leb→le _ _
    (below_at 100 (λ k. leb (days_of_years 1970 k + sum (month_lengths (is_leap_year (1970 + k)))) 36525) tt n h)

year_ends : (year : ℕ) → 1970 ≤ year → year ≤ 2069
    → days_of_years 1970 (year - 1970) + sum (month_lengths (is_leap_year year)) ≤ 36525
year_ends year first last =
    let same : 1970 + (year - 1970) ≡ year = omega arith in
    rw same at (years_end (year - 1970) (omega arith))

-- so a date of these years is less than 36,525 days after 1 January 1970
pub days_small : (year month day : ℕ) → supported_date first_year last_year year month day ≡ true
    → days_since_epoch year month day < 36525
unfolding days_since_epoch
days_small year month day h =
    let k = known year month day h in
    let most = most_days year month day ((supported_exactly year month day).0 h).2 in
    let ends = year_ends year k.year_least k.year_most in
    omega (arith, k.day_least, most, month_ends year month k.month_most, ends)

-- so that what a date adds to its years is small
pub rest_small : (year month day rest : ℕ) → supported_date first_year last_year year month day ≡ true
    → 365 * (year - 1970) + rest ≡ days_since_epoch year month day → rest < 400
unfolding days_since_epoch days_before_month
rest_small year month day rest h e =
    let k = known year month day h in
    omega (arith, e, days_of_years_lem (year - 1970) (omega arith), before_small (is_leap_year year) month k.month_most)

-- the weeks of a few days, without a division
pub weeks_of : (days : ℕ) → days < 600 → days * 293 / 2048 ≡ days / 7
weeks_of days h = eqb→eq _ _ (below_at 600 (λ n. eqb (n * 293 / 2048) (n / 7)) tt days h)

-- 365 days are 52 weeks and a day, so that a year counts as one day
pub weekday_sum : (year month day rest : ℕ) → supported_date first_year last_year year month day ≡ true
    → 365 * (year - 1970) + rest ≡ days_since_epoch year month day → (n : ℕ) → n ≡ (3 + (year - 1970) + rest) / 7
    → 1 + (3 + (year - 1970) + rest - 7 * n) ≡ weekday_or_zero year month day
unfolding weekday_or_zero weekday_number
weekday_sum year month day rest h e n w = simp h (omega arith)
