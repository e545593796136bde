-- The weekday is 0 exactly if the date is not one of 1970 to 2069.
use borrow.Author.Rules.{sfits_of}
use mathlib.Core.Path.{◌≡◌, sym, ◌∙◌}
use mathlib.Core.Bool.{true, false}
use borrow.Author.Tests.{le-leb}
use mir.Syntax.{w16}
use mir.Val.{SFits}
use mir.Facts.{to_z-of_z}
use Rattle.clock_time.specs.Errors.{accepted, refused, checked}
use Rattle.clock_time.specs.declared.ClockTime.{ClockTime}
use Rattle.gregorian.specs.Date.{supported_date, first_year, last_year}
use Rattle.calendar.specs.TimeOfDay.{time_exists}
use Rattle.calendar.specs.Date.{with_weekday}
use Rattle.calendar.proofs.WeekdayLaws.{weekday_zero, weekday_some, weekday_least, weekday_most}
use Rattle.layout.specs.Text.{supported_day, clock_checks}
use Rattle.layout.proofs.check_without_weekday.Goals as goal

module _ (t : ClockTime) where
  no_date : supported_date first_year last_year t.year t.month t.day ≡ false
      → refused 5 ≡ checked (clock_checks (supported_day t) (with_weekday t) false) (with_weekday t)
  unfolding clock_checks supported_day
  no_date date = simp date

  no_time : supported_date first_year last_year t.year t.month t.day ≡ true
      → time_exists t.hour t.minute t.second t.utc_offset ≡ false
      → refused 6 ≡ checked (clock_checks (supported_day t) (with_weekday t) false) (with_weekday t)
  unfolding clock_checks supported_day with_weekday
  no_time date time = simp (date, time)

  -- a date and a time that exist, with the weekday of the date
  passes : supported_date first_year last_year t.year t.month t.day ≡ true
      → time_exists t.hour t.minute t.second t.utc_offset ≡ true
      → accepted (with_weekday t) ≡ checked (clock_checks (supported_day t) (with_weekday t) false) (with_weekday t)
  unfolding clock_checks supported_day with_weekday
  passes date time = simp (date, time, le-leb _ _ (weekday_least _ _ _ date), le-leb _ _ (weekday_most _ _ _ date))

pub returns-then-dated-eq0 : goal.returns-then-dated-eq0
unfolding with_weekday
returns-then-dated-eq0 c = no_date _ (weekday_zero _ _ _ (rw c.with_weekday-dated.ensures at c.if-dated-eq0.true))

pub returns-then-not-time_exists : goal.returns-then-not-time_exists
unfolding with_weekday
returns-then-not-time_exists c =
    let offset_fits : SFits w16 c.args.t.utc_offset = search sfits_of in
    let time = rw (to_z-of_z offset_fits) at c.time_exists.ensures in
    let date = weekday_some _ _ _ (rw c.with_weekday-dated.ensures at c.if-dated-eq0.false) in
    no_time _ date (sym time ∙ c.if-not-time_exists.true)

pub returns : goal.returns
unfolding with_weekday
returns c =
    let offset_fits : SFits w16 c.args.t.utc_offset = search sfits_of in
    let time = rw (to_z-of_z offset_fits) at c.time_exists.ensures in
    let date = weekday_some _ _ _ (rw c.with_weekday-dated.ensures at c.if-dated-eq0.false) in
    rw c.with_weekday-dated.ensures (passes _ date (sym time ∙ c.if-not-time_exists.false))
