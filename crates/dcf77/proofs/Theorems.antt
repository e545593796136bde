-- The main results of the DCF77 minute.
use Prim.Native.Nat.{ℕ}
use mathlib.Core.Path.{◌≡◌}
use mathlib.Core.Logic.{◌↔◌}
use mathlib.Core.Bool.{true}
use mathlib.Core.List.{List}
use Rattle.clock_time.specs.Errors.{accepted, refused}
use Rattle.clock_time.specs.Order.{Gives}
use Rattle.clock_time.specs.Faithful.{Faithful}
use Rattle.clock_time.proofs.FaithfulLaws as writing
use Rattle.clock_time.proofs.OrderLaws.{refused_exactly}
use Rattle.calendar.specs.UnixTime.{is_reading}
use Rattle.calendar.specs.Rules.{ReadingRules}
use Rattle.dcf77.specs.Minute.{minute_fields, minute_checks, read_minute, minute_text, same_minute, write_minute}
use Rattle.dcf77.specs.Says.{RunRules, LeapRule, SaysMinute}
use Rattle.dcf77.specs.Accepts.{AcceptsMinute}
use Rattle.dcf77.specs.Lines.{minute_lines}
use Rattle.dcf77.specs.Writable.{minute_representable}
use Rattle.dcf77.specs.declared.MinuteTime.{MinuteTime}
use Rattle.dcf77.proofs.SaysLaws.{fields_say, said_fields}
use Rattle.dcf77.proofs.LinesLaws.{agrees}
use Rattle.dcf77.proofs.AcceptLaws.{read_exactly, read_valid}
use Rattle.dcf77.proofs.FieldsLaws.{text_read}
use Rattle.dcf77.proofs.SameLaws.{same_minute_refl, same_minute_true}
use Rattle.dcf77.proofs.WriteLaws.{written_exactly}

-- demand 2: acceptance, the fields read, and what is written
pub faithful : Faithful AcceptsMinute read_minute write_minute
unfolding write_minute
faithful =
    writing.faithful read_minute minute_text same_minute text_read same_minute_refl same_minute_true AcceptsMinute
    read_exactly

-- its first sentence by itself
pub read_minute_exactly : (m : List ℕ) (a : MinuteTime) → (read_minute m ≡ accepted a)
    ↔ (RunRules m × SaysMinute m a × ReadingRules a.time × LeapRule m a.time)
read_minute_exactly = faithful.reader.accepted_exactly

-- and refused with a number exactly if its line of the table in words holds and no earlier one does: "Each number is
-- given when its line holds and no earlier one does, and never otherwise." (01, Refusal numbers)
pub refused_minute_exactly : (m : List ℕ) (n : ℕ) → (read_minute m ≡ refused n) ↔ Gives (minute_lines m) n
unfolding read_minute
refused_minute_exactly m = refused_exactly (minute_checks m) (minute_lines m) (agrees m) (minute_fields m)

-- marks that keep the rules of a run say one minute and no other
pub says_one : (m : List ℕ) → RunRules m
    → (a : MinuteTime) × (SaysMinute m a × ((b : MinuteTime) → SaysMinute m b → b ≡ a))
says_one m r = (minute_fields m, (fields_say m r, said_fields m r))

-- what is read is a valid reading
pub valid_read : (m : List ℕ) (a : MinuteTime) → read_minute m ≡ accepted a → is_reading a.time ≡ true
valid_read = read_valid

-- read exactly what is written: as a, the marks of a and no other run, if a is a minute that some run announces
pub read_is_written : (m : List ℕ) (a : MinuteTime)
    → (read_minute m ≡ accepted a) ↔ ((minute_representable a ≡ true) × (minute_text a ≡ m))
read_is_written = written_exactly
