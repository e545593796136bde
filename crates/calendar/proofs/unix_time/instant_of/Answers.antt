use borrow.Author.Rules.{sfits_of}
use native.Mathlib.Omega.{arith}
use mathlib.Core.Path.{◌≡◌}
use mathlib.Core.Bool.{true}
use mir.Syntax.{w16, w64}
use mir.Val.{SFits}
use mir.Facts.{to_z-of_z}
use Rattle.clock_time.proofs.Tests.{both}
use Rattle.clock_time.specs.declared.ClockTime.{ClockTime}
use Rattle.gregorian.specs.Date.{supported_date, first_year, last_year}
use Rattle.calendar.specs.UnixTime.{is_reading, instant_of}
use Rattle.calendar.proofs.DateLaws.{days_small}
use Rattle.calendar.proofs.unix_time.instant_of.Goals as goal

dated : (t : ClockTime) → is_reading t ≡ true → supported_date first_year last_year t.year t.month t.day ≡ true
unfolding is_reading
dated t h = (both _ _ (both _ _ (both _ _ (both _ _ h).0).0).0).0

pub invariant_of-days_since_epoch : goal.invariant_of-days_since_epoch
invariant_of-days_since_epoch c = rw c.date.ensures (record { is_supported = dated c.args.t c.requires })

pub to_utc-requires : goal.to_utc-requires
to_utc-requires c =
    let days = rw c.date.ensures at c.days_since_epoch-days.ensures in
    omega (arith, days, days_small _ _ _ (dated c.args.t c.requires))

pub returns : goal.returns
unfolding instant_of
returns c =
    let f : SFits w64 c.to_utc.result = search sfits_of in
    let o : SFits w16 c.args.t.utc_offset = search sfits_of in
    let utc = rw (to_z-of_z o) at c.to_utc.ensures in
    rw (to_z-of_z f, utc) (simp (c.days_since_epoch-days.ensures, c.date.ensures))
