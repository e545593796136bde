-- What a valid reading has.
use Prim.Native.Nat.{ℕ, ◌%◌, ◌≤◌, ◌<◌}
use native.Mathlib.Omega.{arith}
use mathlib.Core.Path.{◌≡◌, refl}
use mathlib.Core.Bool.{Bool, true, false, cond, ◌&&◌, ◌||◌}
use lib.Dec.{leb, ltb, eqb}
use lib.IntN.{pos}
use borrow.Author.Tests.{leb-true, ltb-true, eqb-true}
use Rattle.clock_time.specs.Zone.{cet_offset}
use Rattle.clock_time.specs.declared.ClockTime.{ClockTime}
use Rattle.clock_time.proofs.Tests.{both}
use Rattle.gregorian.specs.Date.{date_exists, full_year, supported_date, first_year, last_year}
use Rattle.calendar.specs.TimeOfDay.{time_exists, utc_minute}
use Rattle.calendar.specs.UnixTime.{offset_in_range, is_reading}
use Rattle.gregorian.proofs.DateLaws.{Known, known, year_sum}

pub sixty_most : (second : ℕ) (b : Bool) → (ltb second 60 || eqb second 60 && b) ≡ true → second ≤ 60
sixty_most second b h = go (ltb second 60) refl h
  where
    go : (t : Bool) → ltb second 60 ≡ t → (t || eqb second 60 && b) ≡ true → second ≤ 60
    go true e h = let k = ltb-true second 60 e in omega arith
    go false e h = let k = eqb-true second 60 (both (eqb second 60) b h).0 in omega (arith, k)

date_exists_lem : (y m d : ℕ) → supported_date first_year last_year y m d ≡ true → date_exists y m d ≡ true
unfolding supported_date
date_exists_lem y m d h = (both (leb 1970 y && leb y 2069) (date_exists y m d) h).1

pub record Valid (t : ClockTime) : Type 0 where
  pub supported_date_lem : supported_date first_year last_year t.year t.month t.day ≡ true
  pub exists : date_exists t.year t.month t.day ≡ true
  pub date : Known t.year t.month t.day
  pub time : time_exists t.hour t.minute t.second t.utc_offset ≡ true
  pub hour : t.hour < 24
  pub minute : t.minute < 60
  pub second : t.second ≤ 60
  pub weekday_least : 1 ≤ t.weekday
  pub weekday_most : t.weekday ≤ 7
  pub offset : offset_in_range t.utc_offset ≡ true

pub valid : (t : ClockTime) → is_reading t ≡ true → Valid t
unfolding is_reading time_exists
valid t h =
    let date = supported_date first_year last_year t.year t.month t.day in
    let time = time_exists t.hour t.minute t.second t.utc_offset in
    let leap = eqb (utc_minute t.hour t.minute t.utc_offset) 1439 in
    let last = ltb t.second 60 || eqb t.second 60 && leap in
    let offset = both (date && time && leb 1 t.weekday && leb t.weekday 7) (offset_in_range t.utc_offset) h in
    let weekday_most = both (date && time && leb 1 t.weekday) (leb t.weekday 7) offset.0 in
    let weekday_least = both (date && time) (leb 1 t.weekday) weekday_most.0 in
    let d = both date time weekday_least.0 in
    let w = both (ltb t.hour 24 && ltb t.minute 60) last d.1 in
    let v = both (ltb t.hour 24) (ltb t.minute 60) w.0 in
    record {
      supported_date_lem = d.0;
      exists = date_exists_lem t.year t.month t.day d.0;
      date = known t.year t.month t.day d.0;
      time = d.1;
      hour = ltb-true t.hour 24 v.0;
      minute = ltb-true t.minute 60 v.1;
      second = sixty_most t.second leap w.1;
      weekday_least = leb-true 1 t.weekday weekday_least.1;
      weekday_most = leb-true t.weekday 7 weekday_most.1;
      offset = offset.1;
    }

-- the year from 1970 to 2069 that ends in the last two digits of one of these years is that year
pub full_year_last_two : (y : ℕ) → 1970 ≤ y → y ≤ 2069 → full_year first_year (y % 100) ≡ y
full_year_last_two y first last = omega (arith, year_sum (y % 100))

-- the offsets of receivers that know UTC, CET and CEST
pub zone_in_range : (utc summer : Bool) → offset_in_range (cond utc (pos 0) (cet_offset summer)) ≡ true
unfolding offset_in_range
zone_in_range true summer = refl
zone_in_range false true = refl
zone_in_range false false = refl
