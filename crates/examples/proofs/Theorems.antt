-- The worked examples of document 01 hold.
use mathlib.Core.Path.{refl}
use mathlib.Core.List.{Option-to_list}
use Rattle.clock_time.specs.Same.{eq_ℤ}
use Rattle.clock_time.specs.Lists.{ascii}
use Rattle.gregorian.specs.Date.{is_leap_year, month_lengths, days_in_month, date_exists, full_year, supported_date}
use Rattle.calendar.specs.Date.{days_of_years, days_before_month, days_since_epoch}
use Rattle.calendar.specs.TimeOfDay.{modulo, utc_minute, time_exists}
use Rattle.calendar.specs.UnixTime.{offset_in_range, is_reading, instant_of, unix_time}
use Rattle.decimal.specs.Decimal.{is_digit, value_from}
use Rattle.layout.specs.Layout.{allowed, error_at, offence, first}
use Rattle.layout.specs.Text.{supported_day, clock_checks, text_checks, read_text}
use Rattle.signed.specs.Signed.{signed, sign_holds}
use Rattle.meinberg_gps_position.specs.Aligned.{are_digits, right_aligned}
use Rattle.meinberg_gps_position.specs.Position.{angle_digits, position_digits, in_range, position_fault, angle_of}
use Rattle.meinberg_gps_position.specs.Position.{position_of}
use Rattle.meinberg_gps.specs.Gps.{gps_layout, offset_fault, offset_of, leap_mismatch, clock_of, gps_fields, gps, read_gps}
use Rattle.dcf77.specs.Marks.{all_sure, binary, two_digits, longs, is_odd}
use Rattle.dcf77.specs.Minute.{announced, minute_fields, minute_checks, read_minute}
use Rattle.dcf77_outcome.specs.Number.{run_number}
use Rattle.recording.specs.Gaps.{gap_before, first_gap, gap_after}
use Rattle.recording.specs.Outcomes.{numbers, differ, differences}
use Rattle.recording.specs.Rule.{rule_by, reached}
use Rattle.recording.specs.Recording.{fill_outcomes, correct_mark}
use Rattle.examples.specs.Examples.{AllHold, examples}

pub examples_hold : AllHold examples
unfolding
    read_gps gps read_text text_checks supported_day clock_checks gps_layout ascii allowed error_at offence first is_digit
    value_from offset_fault offset_of sign_holds signed leap_mismatch clock_of gps_fields position_fault position_digits
    angle_digits right_aligned are_digits in_range angle_of position_of is_leap_year month_lengths days_in_month date_exists
    full_year supported_date days_of_years days_before_month days_since_epoch modulo utc_minute time_exists offset_in_range
    is_reading instant_of unix_time fill_outcomes correct_mark numbers differ differences rule_by reached Option-to_list
    gap_before first_gap gap_after run_number read_minute minute_checks minute_fields announced all_sure binary two_digits longs
    is_odd eq_ℤ
examples_hold =
    (refl, (refl, ((refl, refl), (refl, (refl, (refl, (refl, (refl, (refl, ((refl, refl), ((refl, refl), tt)))))))))))
