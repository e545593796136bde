-- What is known of a minute whose fields pass the writer's test.
use Prim.Native.Nat.{ℕ, ◌≤◌, ◌<◌}
use mathlib.Core.Path.{◌≡◌, ap}
use mathlib.Core.Bool.{Bool, true, false, not, ◌&&◌, false≢true}
use lib.Dec.{ltb, eqb}
use lib.IntN.{ℤ, pos, negsuc}
use borrow.Author.Tests.{not-true, eqb-true, ltb-true}
use Rattle.clock_time.specs.Zone.{cet_offset}
use Rattle.clock_time.specs.Same.{eq_ℤ}
use Rattle.clock_time.proofs.Tests.{both}
use Rattle.gregorian.specs.Date.{supported_date, first_year, last_year}
use Rattle.calendar.specs.Representable.{is_representable}
use Rattle.calendar.proofs.RepresentableLaws.{represented}
use Rattle.dcf77.specs.Writable.{fields_representable, minute_representable}
use Rattle.dcf77.specs.declared.MinuteTime.{MinuteTime}

offset_told : (z : ℤ) (n : ℕ) → eq_ℤ z (pos n) ≡ true → z ≡ pos n
unfolding eq_ℤ
offset_told (pos m) n h = ap pos (eqb-true m n h)
offset_told (negsuc m) n h = absurd (false≢true h)

zone_told : (z : ℤ) (summer : Bool) → eq_ℤ z (cet_offset summer) ≡ true
    → z ≡ cet_offset summer
zone_told z true h = offset_told z 120 h
zone_told z false h = offset_told z 60 h

-- a minute whose fields pass
pub record Fits (a : MinuteTime) : Type 0 where
  pub supported_date_lem : supported_date first_year last_year a.time.year a.time.month a.time.day ≡ true
  pub zone : a.time.utc_offset ≡ cet_offset a.time.summer_time
  pub weekday_least : 1 ≤ a.time.weekday
  pub weekday_most : a.time.weekday ≤ 7
  pub hour : a.time.hour < 24
  pub minute : a.time.minute < 60
  pub second : a.time.second ≡ 0
  pub synchronised : a.time.unsynchronised ≡ false
  pub verified : a.time.unverified ≡ false
  pub marks : a.detail.first_marks < 16384
  pub leap : (a.detail.sixty && not (a.time.leap_second_announced && eqb a.time.minute 0)) ≡ false

pub fits : (a : MinuteTime) → minute_representable a ≡ true → Fits a
unfolding minute_representable fields_representable
fits a h =
    let t = a.time in
    let zone = eq_ℤ t.utc_offset (cet_offset t.summer_time) in
    let k = both _ (is_representable t) h in
    let z = both (fields_representable a) zone k.0 in
    let r = represented t k.1 in
    let j = both _ (not (a.detail.sixty && not (t.leap_second_announced && eqb t.minute 0))) z.0 in
    let i = both _ (ltb a.detail.first_marks 16384) j.0 in
    let g = both _ (not t.unverified) i.0 in
    let f = both (eqb t.second 0) (not t.unsynchronised) g.0 in
    record {
      supported_date_lem = r.supported_date_lem;
      zone = zone_told t.utc_offset t.summer_time z.1;
      weekday_least = r.weekday_least;
      weekday_most = r.weekday_most;
      hour = r.hour;
      minute = r.minute;
      second = eqb-true _ _ f.0;
      synchronised = not-true _ f.1;
      verified = not-true _ g.1;
      marks = ltb-true _ _ i.1;
      leap = not-true _ j.1;
    }
