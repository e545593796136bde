-- The days walked one by one are those that the sum of years, months and days counts.
use Prim.Native.Nat.{ℕ, zero, suc, ◌+◌, ◌-◌, ◌/◌, ◌≤◌, ◌<◌}
use native.Mathlib.Nat.{add-zero, add-suc}
use native.Mathlib.Omega.{arith}
use native.Mathlib.Decide.{dec_le}
use mathlib.Core.Path.{◌≡◌, refl, sym, ◌∙◌}
use mathlib.Core.Logic.{◌↔◌, by_cases}
use mathlib.Core.Bool.{Bool, true, false, cond, not, ◌||◌, true≢false}
use mathlib.Core.List.{[], ◌∷◌}
use lib.Dec.{leb, eqb, eqb→eq, leb→le}
use lib.ListN.{get_or, take}
use borrow.Author.Tests.{le-leb, ne_eqb, not-false}
use Rattle.clock_time.specs.Errors.{accepted, given, checked}
use Rattle.clock_time.proofs.ErrorLaws.{accepted_passes}
use Rattle.clock_time.specs.Lists.{sum}
use Rattle.gregorian.specs.Date.{is_leap_year, month_lengths, days_in_month, date_exists, supported_date, first_year, last_year}
use Rattle.gregorian.specs.Rules.{GregorianDate}
use Rattle.gregorian.proofs.DateLaws.{every_month}
use Rattle.gregorian.proofs.RulesLaws.{date_exactly, most_days, supported_exactly}
use Rattle.calendar.specs.Date.{days_of_years, days_before_month, days_since_epoch, day_number, weekday_number}
use Rattle.calendar.specs.Date.{weekday_of, weekday_or_zero}
use Rattle.calendar.specs.Days.{DayAfter, epoch, next_day, next_month, next_year, OnWeekday}

-- ---- months
-- a month begins where the one before it ends
begin_test : Bool → ℕ → Bool
begin_test leap month =
    eqb month 0
    || eqb (sum (take (suc month - 1) (month_lengths leap)))
    (sum (take (month - 1) (month_lengths leap)) + get_or (0 ∷ month_lengths leap) month 0)

next_begins : (year month : ℕ) → 1 ≤ month → month ≤ 12
    → days_before_month year (suc month) ≡ days_before_month year month + days_in_month year month
unfolding begin_test days_before_month days_in_month month_lengths
next_begins year month one h =
    let test = every_month begin_test tt tt (is_leap_year year) month h in
    eqb→eq _ _ (rw (ne_eqb month 0 (λ z. omega (arith, z))) at test)

-- every month has a first day
month_begins : (year month : ℕ) → 1 ≤ month → month ≤ 12 → 1 ≤ days_in_month year month
unfolding days_in_month month_lengths
month_begins year month one h =
    let test = every_month (λ l m. eqb m 0 || leb 1 (get_or (0 ∷ month_lengths l) m 0)) tt tt (is_leap_year year) month h in
    leb→le 1 _ (rw (ne_eqb month 0 (λ z. omega (arith, z))) at test)

-- a day of a month is a date if it is at most the month's last
day_exists : (year month day : ℕ) → 1 ≤ day → day ≤ days_in_month year month → GregorianDate year month day
unfolding date_exists
day_exists year month day one most = (date_exactly year month day).0 (simp (le-leb _ _ one, le-leb _ _ most))

december_days : (year : ℕ) → days_in_month year 12 ≡ 31
unfolding days_in_month month_lengths
december_days year = refl

-- ---- years
-- the days of one year more are those of the years before and its own
one_more : (year count : ℕ) → days_of_years year (suc count)
    ≡ days_of_years year count + sum (month_lengths (is_leap_year (year + count)))
unfolding days_of_years
one_more year zero = rw (add-zero year) (omega arith)
one_more year (suc count) =
    let e : suc year + count ≡ year + suc count = omega arith in
    let rest = rw e at (one_more (suc year) count) in
    omega (arith, rest)

year_days : (year : ℕ) → sum (month_lengths (is_leap_year year)) ≡ days_before_month year 12 + 31
unfolding days_before_month month_lengths
year_days year = go (is_leap_year year)
  where
    go : (leap : Bool) → sum (month_lengths leap) ≡ sum (take 11 (month_lengths leap)) + 31
    go true = refl
    go false = refl

-- ---- a date that is walked to is counted
-- the date is n days from 1 January 1970 by the sum of years, months and days
abbrev pub Counted : ℕ → ℕ → ℕ → ℕ → Type 0
Counted n year month day = GregorianDate year month day × (1970 ≤ year) × (n ≡ days_since_epoch year month day)

counted_epoch : Counted 0 1970 1 1
unfolding days_since_epoch days_of_years days_before_month date_exists days_in_month month_lengths is_leap_year
counted_epoch = ((date_exactly 1970 1 1).0 refl, omega arith, refl)

counted_day : {n year month day : ℕ} → Counted n year month day → GregorianDate year month (suc day)
    → Counted (suc n) year month (suc day)
unfolding days_since_epoch
counted_day c next = (next, c.1, omega (arith, c.2, c.0.day_least))

-- a day with none after it in its month is the month's last
last_day : (year month day : ℕ) → GregorianDate year month day → (GregorianDate year month (suc day) → ⊥)
    → day ≡ days_in_month year month
last_day year month day d last =
    by_cases (dec_le (suc day) (days_in_month year month))
    (λ h. absurd (last (day_exists year month (suc day) (omega arith) h)))
    λ k. omega (arith, most_days year month day d)

counted_month : (n year month day : ℕ) → Counted n year month day → (GregorianDate year month (suc day) → ⊥)
    → month < 12 → Counted (suc n) year (suc month) 1
unfolding days_since_epoch
counted_month n year month day c last more =
    let d = c.0 in
    let begins = next_begins year month d.month_least d.month_most in (
      day_exists year (suc month) 1 (omega arith) (month_begins year (suc month) (omega arith) (omega arith)),
      c.1,
      omega (arith, c.2, d.day_least, begins, last_day year month day d last),
    )

counted_year : (n year : ℕ) → Counted n year 12 31 → Counted (suc n) (suc year) 1 1
unfolding days_since_epoch days_before_month
counted_year n year c =
    let count : suc year - 1970 ≡ suc (year - 1970) = omega (arith, c.1) in
    let same : 1970 + (year - 1970) ≡ year = omega (arith, c.1) in
    let years = rw same at (one_more 1970 (year - 1970)) in (
      day_exists (suc year) 1 1 (omega arith) (month_begins (suc year) 1 (omega arith) (omega arith)),
      omega (arith, c.1),
      rw count (omega (arith, c.2, years, year_days year)),
    )

pub counted : {n year month day : ℕ} → DayAfter n year month day → Counted n year month day
counted epoch = counted_epoch
counted (next_day before next) = counted_day (counted before) next
counted (next_month {n = n} {year = y} {month = m} {day = d} before last more) =
    counted_month n y m d (counted before) last more
counted (next_year {n = n} {year = y} before) = counted_year n y (counted before)

-- ---- and a date that is counted is walked to
as_many : {n k year month day : ℕ} → n ≡ k → DayAfter n year month day → DayAfter k year month day
as_many e walk = rw e at walk

days_walked : {n year month : ℕ} (days : ℕ) → DayAfter n year month 1 → suc days ≤ days_in_month year month
    → DayAfter (n + days) year month (suc days)
days_walked {n} zero first h = rw (add-zero n) first
days_walked {n} {year} {month} (suc days) first h =
    rw (add-suc n days)
    (next_day (days_walked days first (omega arith)) (day_exists year month (suc (suc days)) (omega arith) h))

months_walked : {n year : ℕ} (months : ℕ) → DayAfter n year 1 1 → months < 12
    → DayAfter (n + days_before_month year (suc months)) year (suc months) 1
unfolding days_before_month
months_walked {n} zero first h = rw (add-zero n) first
months_walked {n} {year} (suc months) first h =
    let days = days_in_month year (suc months) in
    let some = month_begins year (suc months) (omega arith) (omega arith) in
    let begins = next_begins year (suc months) (omega arith) (omega arith) in
    let last = days_walked (days - 1) (months_walked months first (omega arith)) (omega arith) in
    let none : GregorianDate year (suc months) (suc (suc (days - 1))) → ⊥ =
    λ d. omega (arith, most_days year (suc months) (suc (suc (days - 1))) d) in
    as_many (omega arith) (next_month last none h)

years_walked : (count : ℕ) → DayAfter (days_of_years 1970 count) (1970 + count) 1 1
unfolding days_of_years
years_walked zero = epoch
years_walked (suc count) =
    let december = months_walked 11 (years_walked count) (omega arith) in
    let last = days_walked 30 december (omega (arith, december_days (1970 + count))) in
    rw (add-suc 1970 count)
    (as_many (omega (arith, one_more 1970 count, year_days (1970 + count))) (next_year last))

pub walked : (n year month day : ℕ) → Counted n year month day → DayAfter n year month day
unfolding days_since_epoch
walked n year month day c =
    let d = c.0 in
    let e : 1970 + (year - 1970) ≡ year = omega (arith, c.1) in
    let january = rw e at (years_walked (year - 1970)) in
    let first = months_walked (month - 1) january (omega (arith, d.month_least, d.month_most)) in
    let this : suc (month - 1) ≡ month = omega (arith, d.month_least) in
    let date = days_walked (day - 1) (rw this at first) (omega (arith, d.day_least, most_days year month day d)) in
    let same : suc (day - 1) ≡ day = omega (arith, d.day_least) in
    rw c.2 (rw same at date)

-- ---- every number of days has its date
pub record Dated (n : ℕ) : Type 0 where
  pub year : ℕ
  pub month : ℕ
  pub day : ℕ
  pub date : DayAfter n year month day

day_later : (n year month day : ℕ) → DayAfter n year month day → Dated (suc n)
day_later n year month day walk = go (date_exists year month (suc day)) refl
  where
    d : GregorianDate year month day
    d = (counted walk).0

    go : (t : Bool) → date_exists year month (suc day) ≡ t → Dated (suc n)
    go true e =
        record {
          year = year;
          month = month;
          day = suc day;
          date = next_day walk ((date_exactly year month (suc day)).0 e);
        }
    go false e =
        let last : GregorianDate year month (suc day) → ⊥ =
        λ x. true≢false (sym ((date_exactly year month (suc day)).1 x) ∙ e) in
        by_cases (dec_le (suc month) 12)
        (λ h. record { year = year; month = suc month; day = 1; date = next_month walk last h })
        λ h.
        let december : month ≡ 12 = omega (arith, d.month_most) in
        let thirty_first : day ≡ 31 =
        last_day year month day d last ∙ rw december (december_days year) in
        record { year = suc year; month = 1; day = 1; date = next_year (rw (december, thirty_first) at walk) }

dated : (n : ℕ) → Dated n
dated zero = record { year = 1970; month = 1; day = 1; date = epoch }
dated (suc n) = let d = dated n in day_later n d.year d.month d.day d.date

years_more : (k j : ℕ) → days_of_years 1970 k ≤ days_of_years 1970 (k + j)
years_more k zero = rw (add-zero k) (omega arith)
years_more k (suc j) = rw (add-suc k j) (omega (arith, years_more k j, one_more 1970 (k + j)))

hundred_years : days_of_years 1970 100 ≡ 36525
unfolding days_of_years is_leap_year month_lengths
hundred_years = refl

-- up to 2069 for the days of the hundred years
pub date_of : (n : ℕ) → n < 36525 → (d : Dated n) × (d.year ≤ 2069)
unfolding days_since_epoch
date_of n h =
    let d = dated n in
    let c = counted d.date in
    let last : d.year ≤ 2069 = by_cases (dec_le d.year 2069) (λ y. y) λ y.
    let e : 100 + (d.year - 2070) ≡ d.year - 1970 = omega arith in
    let more = rw e at (years_more 100 (d.year - 2070)) in
    absurd (omega (arith, h, c.2, more, hundred_years)) in
    (d, last)

-- ---- the weekday
pub weekday_counted : (year month day w : ℕ) → OnWeekday year month day w
    ↔ (GregorianDate year month day × (1970 ≤ year) × (w ≡ weekday_number year month day))
unfolding weekday_number
weekday_counted year month day w = (
  λ o. let c = counted o.date in (c.0, c.1, omega (arith, c.2, o.thursday, o.weekday_least, o.weekday_most)),
  λ h.
      let days = days_since_epoch year month day in
      record {
        days = days;
        date = walked days year month day (h.0, h.1, refl);
        weeks = (days + 3) / 7;
        thursday = omega (arith, h.2);
        weekday_least = omega (arith, h.2);
        weekday_most = omega (arith, h.2);
      },
)

-- ---- the answers
-- a number of a date that is known
module _ (year month day number : ℕ) where
  answered : (n : ℕ)
      → (checked (given 5 (not (supported_date first_year last_year year month day)) ∷ []) number ≡ accepted n)
      ↔ ((1970 ≤ year) × (year ≤ 2069) × GregorianDate year month day × (n ≡ number))
  answered n = (
    λ h.
        let w = accepted_passes (given 5 (not (supported_date first_year last_year year month day)) ∷ []) number n h in
        let k = (supported_exactly year month day).0 (not-false _ w.0.0) in (k.0, k.1, k.2, w.1),
    λ k. rw ((supported_exactly year month day).1 (k.0, k.1, k.2), k.3),
  )

pub day_answered : (year month day n : ℕ) → (day_number year month day ≡ accepted n)
    ↔ (DayAfter n year month day × (year ≤ 2069))
unfolding day_number
day_answered year month day n =
    let a = answered year month day (days_since_epoch year month day) n in (
      λ h. let k = a.0 h in (walked n year month day (k.2, k.0, k.3), k.1),
      λ w. let c = counted w.0 in a.1 (c.1, w.1, c.0, c.2),
    )

pub weekday_answered : (year month day w : ℕ) → (weekday_of year month day ≡ accepted w)
    ↔ (OnWeekday year month day w × (year ≤ 2069))
unfolding weekday_of
weekday_answered year month day w =
    let a = answered year month day (weekday_number year month day) w in
    let e = weekday_counted year month day w in (
      λ h. let k = a.0 h in (e.1 (k.2, k.0, k.3), k.1),
      λ o. let c = e.0 o.0 in a.1 (c.1, o.1, c.0, c.2),
    )

-- the weekday of a date of the years 1970 to 2069, and 0 if there is no such date
module _ (year month day w : ℕ) (first : 1970 ≤ year) (last : year ≤ 2069) where
  pub weekday_or_zero_lem : (w ≡ weekday_or_zero year month day)
      ↔ ((GregorianDate year month day → OnWeekday year month day w)
      × ((GregorianDate year month day → ⊥) → w ≡ 0))
  unfolding weekday_or_zero
  weekday_or_zero_lem = go (supported_date first_year last_year year month day) refl
    where
      go : (t : Bool) → supported_date first_year last_year year month day ≡ t
          → (w ≡ cond t (weekday_number year month day) 0)
          ↔ ((GregorianDate year month day → OnWeekday year month day w)
          × ((GregorianDate year month day → ⊥) → w ≡ 0))
      go true e =
          let date = ((supported_exactly year month day).0 e).2 in
          let c = weekday_counted year month day w in
          (λ h. (λ d. c.1 (d, first, h), λ none. absurd (none date)), λ r. (c.0 (r.0 date)).2)
      go false e =
          let none : GregorianDate year month day → ⊥ =
          λ d. true≢false (sym ((supported_exactly year month day).1 (first, last, d)) ∙ e) in
          (λ h. (λ d. absurd (none d), λ n. h), λ r. r.1 none)
