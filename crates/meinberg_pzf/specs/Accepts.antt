-- Which PZF strings are accepted, and as which clock times.
use Rattle.std.specs.Prelude.{ℕ, List}
use Rattle.clock_time.specs.declared.ClockTime.{ClockTime}
use Rattle.calendar.specs.Rules.{ReadingRules}
use Rattle.layout.specs.Picture.{AsDrawn}
use Rattle.meinberg_pzf.specs.Says.{pzf_picture, SaysPzf}

-- "A string or a DCF77 minute is accepted exactly when the rules in document 01 hold, and then every field, offset and
-- flag is the one those rules give." (demand 2): a PZF string is accepted as t if it is as drawn, says t, and
-- t holds what every reading must
abbrev pub AcceptsPzf : List ℕ → ClockTime → Type 0
AcceptsPzf s t = AsDrawn pzf_picture s × SaysPzf s t × ReadingRules t
