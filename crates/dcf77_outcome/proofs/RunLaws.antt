-- What an accepted minute's number is made of: a date that has a day number, and an offset of 120 in summer.
use Prim.Native.Nat.{ℕ}
use mathlib.Core.Path.{◌≡◌, refl, ◌∙◌}
use mathlib.Core.Bool.{Bool, true, false}
use mathlib.Core.List.{List}
use lib.IntN.{pos}
use Rattle.clock_time.specs.Zone.{cet_offset}
use Rattle.clock_time.specs.Errors.{accepted}
use Rattle.clock_time.specs.Same.{eq_ℤ}
use Rattle.gregorian.specs.Date.{supported_date, first_year, last_year}
use Rattle.gregorian.proofs.DateLaws.{supported_exists}
use Rattle.gregorian.proofs.RulesLaws.{date_exactly}
use Rattle.dcf77.specs.Marks.{long, two_digits}
use Rattle.dcf77.specs.Minute.{announced, minute_fields, read_minute}
use Rattle.dcf77.specs.declared.MinuteTime.{MinuteTime}
use Rattle.dcf77.proofs.AcceptLaws.{read_keeps}

pub accepted_known : (m : List ℕ) (a : MinuteTime) → read_minute m ≡ accepted a
    → supported_date first_year last_year a.time.year a.time.month a.time.day ≡ true
unfolding minute_fields announced
accepted_known m a h =
    let w = read_keeps m a h in
    rw w.1 (supported_exists (two_digits 50 4 m) _ _ ∙ (date_exactly _ _ _).1 w.0.1.date)

pub zone_summer : (summer : Bool) → eq_ℤ (cet_offset summer) (pos 120) ≡ summer
unfolding eq_ℤ
zone_summer true = refl
zone_summer false = refl

pub accepted_summer : (m : List ℕ) (a : MinuteTime) → read_minute m ≡ accepted a
    → eq_ℤ a.time.utc_offset (pos 120) ≡ a.time.summer_time
unfolding minute_fields announced
accepted_summer m a h = rw (read_keeps m a h).1 (zone_summer (long 17 m))
