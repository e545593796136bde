-- The rule for every time string: which strings are read, and in which order errors are given.
use Rattle.std.specs.Prelude.{ℕ, Bool, false, cond, not, ◌&&◌, ◌||◌, List, [], ◌∷◌, ◌++◌, leb, eqb, length}
use Prim.Native.Char.{Char, code}
use Rattle.clock_time.specs.Errors.{Answer, Check, given, checked}
use Rattle.clock_time.specs.Same.{same_time}
use Rattle.clock_time.specs.Writing.{Written, write_back}
use Rattle.clock_time.specs.declared.ClockTime.{ClockTime}
use Rattle.gregorian.specs.Date.{supported_date, first_year, last_year}
use Rattle.calendar.specs.TimeOfDay.{time_exists}
use Rattle.decimal.specs.Decimal.{digits}
use Rattle.layout.specs.declared.ClockDigits.{ClockDigits}
use Rattle.layout.specs.Layout.{found}

-- A format: its layout, a fault of its flags given with 4, its own checks before 5, the dates that it can give, a fault
-- given with 6, what its fields say, and the clock time in that.
pub record Format (A : Type 0) : Type 0 where
  pub layout : List ℕ
  pub flag_fault : List ℕ → Bool
  pub own : List ℕ → List Check
  pub supported : ClockTime → Bool
  pub mismatch : List ℕ → Bool
  pub fields : List ℕ → A
  pub clock : A → ClockTime

-- A format that is written too: the only string that could be read as a value, and the test that two values are the
-- same.
pub record WrittenFormat (A : Type 0) : Type 0 where
  pub format : Format A
  pub text : A → List ℕ
  pub same : A → A → Bool

-- "year 1970 to 2069, a date" (01, The reading)
unfoldable pub supported_day : ClockTime → Bool
supported_day t = supported_date first_year last_year t.year t.month t.day

-- a format of clock times alone, which has no faults of its own but in its flags
abbrev pub clock_format : List ℕ → (List ℕ → Bool) → (List ℕ → ClockTime) → Format ClockTime
clock_format layout flag_fault fields =
    record {
      layout = layout;
      flag_fault = flag_fault;
      own = λ s. [];
      supported = supported_day;
      mismatch = λ s. false;
      fields = fields;
      clock = λ t. t;
    }

-- the same, written too
abbrev pub written_clock : Format ClockTime → (ClockTime → List ℕ) → WrittenFormat ClockTime
written_clock format text = record { format = format; text = text; same = same_time }

-- 5: "no such date"; 6: "no such time of day, second 60 rule included"; 7: "weekday outside 1..7" (01, Refusal numbers)
unfoldable pub clock_checks : Bool → ClockTime → Bool → List Check
clock_checks supported t mismatch =
    given 5 (not supported)
    ∷ given 6 (not (time_exists t.hour t.minute t.second t.utc_offset) || mismatch)
    ∷ given 7 (not (leb 1 t.weekday && leb t.weekday 7))
    ∷ []

-- "Order for text: 1, 2, 3, 4, 8, 9, 5, 6, 7." (01, Refusal numbers): 8 and 9 are GPS's own
unfoldable pub text_checks : {A : Type 0} → Format A → List ℕ → List Check
text_checks f s =
    given 1 (not (eqb (length f.layout) (length s)))
    ∷ given 2 (found 2 f.layout s)
    ∷ given 3 (found 3 f.layout s)
    ∷ given 4 (found 4 f.layout s || f.flag_fault s)
    ∷ (f.own s ++ (let t = f.clock (f.fields s) in clock_checks (f.supported t) t (f.mismatch s)))

-- the reader of any format: its checks in their order, and then what its fields say
unfoldable pub read_text : {A : Type 0} → Format A → List ℕ → Answer A
read_text f s = checked (text_checks f s) (f.fields s)

-- the writer of any format
unfoldable pub write_text : {A : Type 0} → WrittenFormat A → A → List ℕ → Written
write_text w a buffer = write_back (read_text w.format) w.text w.same a buffer

-- a letter if a flag is set, else a blank
abbrev pub letter : Bool → Char → ℕ
letter on c = cond on (code c) 32

-- the last two digits of each number of date and time
unfoldable pub clock_digits : ClockTime → ClockDigits
clock_digits t =
    record {
      year = digits 2 t.year;
      month = digits 2 t.month;
      day = digits 2 t.day;
      hour = digits 2 t.hour;
      minute = digits 2 t.minute;
      second = digits 2 t.second;
    }
