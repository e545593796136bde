-- Which ELV strings are accepted, and as which clock times.
use Rattle.std.specs.Prelude.{ℕ, List}
use Rattle.clock_time.specs.declared.ClockTime.{ClockTime}
use Rattle.calendar.specs.Rules.{ReadingRules}
use Rattle.layout.specs.Picture.{AsDrawn}
use Rattle.elv_dcf7000.specs.Says.{elv_picture, SaysElv, RulesElv}

-- "A string or a DCF77 minute is accepted exactly when the rules in document 01 hold, and then every field, offset and
-- flag is the one those rules give." (demand 2): an ELV string is accepted as t if it is as drawn, says t, keeps its
-- own rule, and t holds what every reading must
abbrev pub AcceptsElv : List ℕ → ClockTime → Type 0
AcceptsElv s t = AsDrawn elv_picture s × SaysElv s t × RulesElv s × ReadingRules t
