-- Which GPS strings are accepted, and as which clock times and positions.
use Rattle.std.specs.Prelude.{ℕ, List}
use Rattle.calendar.specs.Rules.{ReadingRules}
use Rattle.layout.specs.Picture.{AsDrawn}
use Rattle.meinberg_gps.specs.Says.{gps_picture, RulesGps, SaysGps}
use Rattle.meinberg_gps.specs.declared.GpsTime.{GpsTime}

-- "A string or a DCF77 minute is accepted exactly when the rules in document 01 hold, and then every field, offset and
-- flag is the one those rules give." (demand 2): a GPS string is accepted as g if it is as drawn, says g, keeps the
-- rules that only this format has, and the clock time of g holds what every reading must
abbrev pub AcceptsGps : List ℕ → GpsTime → Type 0
AcceptsGps s g = AsDrawn gps_picture s × SaysGps s g × RulesGps s × ReadingRules g.time
