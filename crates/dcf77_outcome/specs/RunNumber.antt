-- The number of a run of marks, in words and with no function of its reader in them.
use Rattle.std.specs.Prelude.{ℕ, ◌+◌, ◌*◌, ◌≡◌, true, List, pos}
use Rattle.clock_time.specs.Order.{Gives}
use Rattle.calendar.specs.Days.{DayAfter}
use Rattle.dcf77.specs.Accepts.{AcceptsMinute}
use Rattle.dcf77.specs.Lines.{minute_lines}
use Rattle.dcf77.specs.declared.MinuteTime.{MinuteTime}

-- "16 (run of 60)" (01, Tape and sheet) and the like: so much is added if something is so, and nothing otherwise
pub record Adds (much : ℕ) (P : Type 0) (added : ℕ) : Type 0 where
  pub so : P → added ≡ much
  pub otherwise : (P → ⊥) → added ≡ 0

-- "100 + 32 L + 16 (run of 60) + 8 (offset 120) + 4 antenna + 2 change + 1 leap, where L is local minutes from
-- 1970-01-01 00:00" (01, Tape and sheet): n is the number of the minute a
pub record MinuteNumber (a : MinuteTime) (n : ℕ) : Type 0 where
  pub days : ℕ
  pub date : DayAfter days a.time.year a.time.month a.time.day
  pub L : ℕ
  pub local_minutes : L ≡ 1440 * days + 60 * a.time.hour + a.time.minute
  pub for_60 : ℕ
  pub run_of_60 : Adds 16 (a.detail.sixty ≡ true) for_60
  pub for_offset : ℕ
  pub offset_120 : Adds 8 (a.time.utc_offset ≡ pos 120) for_offset
  pub for_antenna : ℕ
  pub antenna : Adds 4 (a.time.alternate_antenna ≡ true) for_antenna
  pub for_change : ℕ
  pub change : Adds 2 (a.time.dst_change_announced ≡ true) for_change
  pub for_leap : ℕ
  pub leap : Adds 1 (a.time.leap_second_announced ≡ true) for_leap
  pub number : n ≡ 100 + 32 * L + for_60 + for_offset + for_antenna + for_change + for_leap

-- "at a gap the refusal number; or, accepted, 100 + [..]" (01, Tape and sheet): n is the number of the run m
pub record RunNumber (m : List ℕ) (n : ℕ) : Type 0 where
  pub refused : (k : ℕ) → Gives (minute_lines m) k → n ≡ k
  pub accepted : (a : MinuteTime) → AcceptsMinute m a → MinuteNumber a n

-- n is the number of some accepted minute
abbrev pub HasMinute : ℕ → Type 0
HasMinute n = (m : List ℕ) × ((a : MinuteTime) × (AcceptsMinute m a × MinuteNumber a n))
