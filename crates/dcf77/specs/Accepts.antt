-- Which runs of marks are accepted, and as which minutes.
use Rattle.std.specs.Prelude.{ℕ, List}
use Rattle.calendar.specs.Rules.{ReadingRules}
use Rattle.dcf77.specs.Says.{RunRules, LeapRule, SaysMinute}
use Rattle.dcf77.specs.declared.MinuteTime.{MinuteTime}

-- "A string or a DCF77 minute is accepted exactly when the rules in document 01 hold, and then every field, offset and
-- flag is the one those rules give." (demand 2): a run of marks is accepted as a if it keeps the rules of marks, says
-- a, the time of a is a reading, and 60 marks keep the rule of line 19
abbrev pub AcceptsMinute : List ℕ → MinuteTime → Type 0
AcceptsMinute m a = RunRules m × SaysMinute m a × ReadingRules a.time × LeapRule m a.time
