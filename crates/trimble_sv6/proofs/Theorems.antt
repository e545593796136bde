-- The main results of the Trimble string.
use Rattle.std.proofs.Common.{◌≡◌, ℕ, true, ◌↔◌, List, length, refl, lit≤}
use Rattle.clock_time.specs.Errors.{accepted, refused}
use Rattle.clock_time.specs.Order.{numbers_of, Gives}
use Rattle.clock_time.specs.Faithful.{FaithfulReader}
use Rattle.clock_time.proofs.OrderLaws as orders
use Rattle.calendar.specs.Date.{weekday_of}
use Rattle.calendar.specs.Rules.{ReadingRules}
use Rattle.calendar.specs.UnixTime.{is_reading}
use Rattle.calendar.proofs.RulesLaws.{valid_exactly}
use Rattle.calendar.proofs.Theorems.{weekday_of_exactly}
use Rattle.layout.specs.Picture.{AsDrawn}
use Rattle.layout.proofs.Theorems as text
use Rattle.trimble_sv6.specs.Trimble.{trimble_fields, read_trimble}
use Rattle.trimble_sv6.specs.Says.{trimble_picture, RulesTrimble, SaysTrimble}
use Rattle.trimble_sv6.specs.Accepts.{AcceptsTrimble}
use Rattle.trimble_sv6.specs.Lines.{trimble_order, trimble_lines}
use Rattle.trimble_sv6.specs.declared.TrimbleTime.{TrimbleTime}
use Rattle.trimble_sv6.proofs.Checks.{trimble_checks}
use Rattle.trimble_sv6.proofs.SaysLaws.{yearly, read_yearly, in_words}
use Rattle.trimble_sv6.proofs.LinesLaws.{read_checks_lem, trimble_agrees}

-- "A string [..] is accepted exactly when the rules [..] hold, and then every field, offset and flag is the one those
-- rules give." (demand 2): it is accepted exactly if it is as drawn, says the value, keeps the rules that only this
-- format has, and the clock time is a reading
pub read_trimble_exactly : (s : List ℕ) (g : TrimbleTime) → (read_trimble s ≡ accepted g)
    ↔ (AsDrawn trimble_picture s × SaysTrimble s g × RulesTrimble s × ReadingRules g.time)
unfolding read_trimble yearly
read_trimble_exactly s g = rw (read_yearly s) (text.exactly in_words s g)

-- demand 2, of a format that is only read
pub faithful : FaithfulReader AcceptsTrimble read_trimble
faithful = record { accepted_exactly = read_trimble_exactly }

-- "its 37-byte string" (02, T-01)
pub long : length trimble_picture ≡ 37
long = refl

-- and refused with a number exactly if its line of the table in words holds and no earlier one does: "Each number is
-- given when its line holds and no earlier one does, and never otherwise." (01, Refusal numbers)
pub refused_trimble_exactly : (s : List ℕ) (n : ℕ) → (read_trimble s ≡ refused n) ↔ Gives (trimble_lines s) n
refused_trimble_exactly s n =
    rw (read_checks_lem s)
    (orders.refused_exactly (trimble_checks s) (trimble_lines s) (trimble_agrees s) (trimble_fields s) n)

-- "24, the sum is wrong or no hex, after 3; 25, v is not `1`, after 24" (02, T-01)
pub order : (s : List ℕ) → numbers_of (trimble_lines s) ≡ trimble_order
order s = refl

-- a string that is as drawn and keeps the rules of its own says one clock time with milliseconds and no other
pub says_one : (s : List ℕ) → AsDrawn trimble_picture s → RulesTrimble s
    → (g : TrimbleTime) × (SaysTrimble s g × ((h : TrimbleTime) → SaysTrimble s h → h ≡ g))
says_one = text.says_one in_words

-- what is read is a valid reading
pub valid_read : (s : List ℕ) (g : TrimbleTime) → read_trimble s ≡ accepted g → is_reading g.time ≡ true
valid_read s g h =
    let r = (read_trimble_exactly s g).0 h in
    let says = r.1 in
    let years = r.2.years in
    (valid_exactly g.time).1 (record {
      year_least = rw says.year years.least;
      year_most = rw says.year years.most;
      date = r.3.date;
      time = r.3.time;
      weekday_least = r.3.weekday_least;
      weekday_most = r.3.weekday_most;
      offset = rw says.offset (lit≤ tt);
    })

-- the weekday that is read is the one that `weekday_of` answers of the date
pub weekday_read : (s : List ℕ) (g : TrimbleTime) → read_trimble s ≡ accepted g → let t = g.time in
    weekday_of t.year t.month t.day ≡ accepted t.weekday
weekday_read s g h =
    let r = (read_trimble_exactly s g).0 h in
    (weekday_of_exactly _ _ _ _).1 (r.1.weekday r.3.date, rw r.1.year r.2.years.most)
