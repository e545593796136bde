-- Which standard strings are accepted, and as which clock times.
use Rattle.std.specs.Prelude.{ℕ, List}
use Rattle.clock_time.specs.declared.ClockTime.{ClockTime}
use Rattle.calendar.specs.Rules.{ReadingRules}
use Rattle.layout.specs.Picture.{AsDrawn}
use Rattle.meinberg_standard.specs.Says.{standard_picture, SaysStandard}

-- "A string or a DCF77 minute is accepted exactly when the rules in document 01 hold, and then every field, offset and
-- flag is the one those rules give." (demand 2): a standard string is accepted as t if it is as drawn, says t, and
-- t holds what every reading must
abbrev pub AcceptsStandard : List ℕ → ClockTime → Type 0
AcceptsStandard s t = AsDrawn standard_picture s × SaysStandard s t × ReadingRules t
