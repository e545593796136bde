-- Which Trimble strings are accepted, and as which clock times and milliseconds.
use Rattle.std.specs.Prelude.{ℕ, List}
use Rattle.calendar.specs.Rules.{ReadingRules}
use Rattle.layout.specs.Picture.{AsDrawn}
use Rattle.trimble_sv6.specs.Says.{trimble_picture, RulesTrimble, SaysTrimble}
use Rattle.trimble_sv6.specs.declared.TrimbleTime.{TrimbleTime}

-- "A string or a DCF77 minute is accepted exactly when the rules in document 01 hold, and then every field, offset and
-- flag is the one those rules give." (demand 2), with the rules of (02, T-01): a Trimble string is accepted as g if it
-- is as drawn, says g, keeps the rules that only this format has, and the clock time of g holds what every reading must
abbrev pub AcceptsTrimble : List ℕ → TrimbleTime → Type 0
AcceptsTrimble s g = AsDrawn trimble_picture s × SaysTrimble s g × RulesTrimble s × ReadingRules g.time
