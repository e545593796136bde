-- A format's writer may decide from the value: it is written exactly if it is a valid reading that
-- the format can represent.
use Prim.Native.Nat.{ℕ, ◌%◌, ◌<◌}
use native.Mathlib.Omega.{arith}
use mathlib.Core.Path.{◌≡◌, refl, sym, ◌∙◌}
use mathlib.Core.Logic.{◌↔◌}
use mathlib.Core.Bool.{Bool, true, false, cond, ◌&&◌, ◌||◌, or-true}
use mathlib.Core.List.{List}
use lib.Dec.{eqb}
use Rattle.clock_time.specs.Errors.{accepted, Passes}
use Rattle.clock_time.specs.Writing.{Written, writing, write_back}
use Rattle.clock_time.specs.declared.ClockTime.{ClockTime}
use Rattle.clock_time.proofs.FaithfulLaws.{decided}
use Rattle.clock_time.proofs.SameLaws.{eqb_refl, same_time_refl, same_time_true}
use Rattle.clock_time.proofs.Tests.{both}
use Rattle.gregorian.specs.Date.{full_year, supported_date, first_year, last_year}
use Rattle.calendar.specs.UnixTime.{offset_in_range, is_reading}
use Rattle.calendar.specs.Representable.{is_representable}
use Rattle.calendar.proofs.ValidLaws.{full_year_last_two}
use Rattle.calendar.proofs.RepresentableLaws.{representable_reading, represented, checked_representable}
use Rattle.decimal.specs.Decimal.{digits, value}
use Rattle.decimal.proofs.DecimalLaws.{value_digits}
use Rattle.layout.specs.Layout.{FitsLayout}
use Rattle.layout.specs.Text.{Format, WrittenFormat, supported_day, clock_format, written_clock, read_text}
use Rattle.layout.specs.Text.{write_text}
use Rattle.layout.proofs.WriteLaws.{year_digits}
use Rattle.layout.proofs.AcceptLaws.{PassesText, read_passes, passes_read}

-- ---- what a text has at its places
-- a flag's letter may stand at its place, and is read as it was written
pub letter_fits : (on : Bool) (n : ℕ) → (eqb (cond on n 32) 32 || eqb (cond on n 32) n) ≡ true
letter_fits true n = rw (eqb_refl n, or-true)
letter_fits false n = refl

pub letter_read : (on : Bool) (n : ℕ) → eqb 32 n ≡ false → eqb (cond on n 32) n ≡ on
letter_read true n h = eqb_refl n
letter_read false n h = h

-- ---- the numbers of a clock time that is representable are read as they were written
module _ (t : ClockTime) (h : is_representable t ≡ true) where
  pub year_written : full_year first_year (value (digits 2 t.year)) ≡ t.year
  year_written =
      let d = (represented t h).date in
      let small : t.year % 100 < 100 = omega arith in
      rw (year_digits t.year, value_digits 2 (t.year % 100) small)
      (full_year_last_two t.year d.year_least d.year_most)

  pub month_written : value (digits 2 t.month) ≡ t.month
  month_written = value_digits 2 t.month (omega (arith, (represented t h).date.month_most))

  pub day_written : value (digits 2 t.day) ≡ t.day
  day_written = value_digits 2 t.day (omega (arith, (represented t h).date.day_most))

  pub weekday_written : value (digits 1 t.weekday) ≡ t.weekday
  weekday_written = value_digits 1 t.weekday (omega (arith, (represented t h).weekday_most))

  pub hour_written : value (digits 2 t.hour) ≡ t.hour
  hour_written = value_digits 2 t.hour (omega (arith, (represented t h).hour))

  pub minute_written : value (digits 2 t.minute) ≡ t.minute
  minute_written = value_digits 2 t.minute (omega (arith, (represented t h).minute))

  pub second_written : value (digits 2 t.second) ≡ t.second
  second_written = value_digits 2 t.second (omega (arith, (represented t h).second))

pub ruleset numbers_written =
    (year_written, month_written, day_written, weekday_written, hour_written, minute_written, second_written)

-- ---- deciding
-- What a writer needs to know of its format to decide from a value: which values are
-- representable.
pub record Decides
    {A : Type 0} (f : Format A) (text : A → List ℕ) (representable : A → Bool) : Type 0 where
  -- what is read is representable, has a date from 1970 to 2069 and an offset in range
  pub supported : (t : ClockTime) → f.supported t ≡ supported_day t
  pub offset : (s : List ℕ) → PassesText f s → offset_in_range (f.clock (f.fields s)).utc_offset ≡ true
  pub read_representable : (s : List ℕ) → PassesText f s → representable (f.fields s) ≡ true
  -- the text of a valid reading that is representable fits its layout, has no further faults, and says the same
  pub fits : (a : A) → is_representable (f.clock a) ≡ true → representable a ≡ true → FitsLayout f.layout (text a)
  pub flags : (a : A) → is_representable (f.clock a) ≡ true → representable a ≡ true → f.flag_fault (text a) ≡ false
  pub own : (a : A) → is_representable (f.clock a) ≡ true → representable a ≡ true → Passes (f.own (text a))
  pub agrees : (a : A) → is_representable (f.clock a) ≡ true → representable a ≡ true → f.mismatch (text a) ≡ false
  pub says : (a : A) → is_representable (f.clock a) ≡ true → representable a ≡ true → f.fields (text a) ≡ a

module _
    {A : Type 0} (w : WrittenFormat A) (representable : A → Bool) (d : Decides w.format w.text representable)
  where
    abbrev f : Format A
    f = w.format

    date : (t : ClockTime) → supported_day t ≡ true
        → supported_date first_year last_year t.year t.month t.day ≡ true
    unfolding supported_day
    date t h = h

    supports : (t : ClockTime) → supported_date first_year last_year t.year t.month t.day ≡ true
        → supported_day t ≡ true
    unfolding supported_day
    supports t h = h

    read_common : (s : List ℕ) → PassesText f s → is_representable (f.clock (f.fields s)) ≡ true
    read_common s r =
        let c = r.clock in
        let t = f.clock (f.fields s) in
        checked_representable t (date t (sym (d.supported t) ∙ c.date)) c.time c.weekday_least c.weekday_most
        (d.offset s r)

    text_passes : (a : A) → is_representable (f.clock a) ≡ true → representable a ≡ true → PassesText f (w.text a)
    text_passes a h k =
        let v = represented (f.clock a) h in
        let same = d.says a h k in
        record {
          clock = record {
            fits = d.fits a h k;
            date = rw same (d.supported (f.clock a) ∙ supports (f.clock a) v.supported_date_lem);
            time = rw same v.time;
            weekday_least = rw same v.weekday_least;
            weekday_most = rw same v.weekday_most;
          };
          flags = d.flags a h k;
          own = d.own a h k;
          agrees = d.agrees a h k;
        }

    passes : (s : List ℕ) (a : A) → read_text f s ≡ accepted a → (is_representable (f.clock a) && representable a) ≡ true
    passes s a e =
        let r = read_passes f s a e in
        rw r.1 (rw (read_common s r.0) (d.read_representable s r.0))

    reads : (a : A) → (is_representable (f.clock a) && representable a) ≡ true → read_text f (w.text a) ≡ accepted a
    reads a e =
        let h = both (is_representable (f.clock a)) (representable a) e in
        passes_read f (w.text a) (text_passes a h.0 h.1) ∙ rw (d.says a h.0 h.1)

    -- what is read is a valid reading
    pub valid_answer : (s : List ℕ) (a : A) → read_text f s ≡ accepted a → is_reading (f.clock a) ≡ true
    valid_answer s a e =
        representable_reading (f.clock a) (both (is_representable (f.clock a)) (representable a) (passes s a e)).0

    -- read exactly what is written: a string is read as a value exactly if the value is a valid reading that is
    -- representable, and the string is its text
    pub read_written : ((s : List ℕ) → PassesText f s → w.text (f.fields s) ≡ s) → (s : List ℕ) (a : A)
        → (read_text f s ≡ accepted a) ↔ (((is_representable (f.clock a) && representable a) ≡ true) × (w.text a ≡ s))
    read_written text_fields s a = (
      λ h. let r = read_passes f s a h in (passes s a h, rw r.1 (text_fields s r.0)),
      λ r. rw r.1 at (reads a r.0),
    )

    -- the writer's code: the two tests, and the bytes of the text
    pub writes : ((a : A) → w.same a a ≡ true) → ((a b : A) → w.same a b ≡ true → a ≡ b)
        → (a : A) (buffer : List ℕ) {t u : Bool} {bytes : List ℕ} {o : Written} → o ≡ writing (t && u) bytes buffer
        → t ≡ is_representable (f.clock a) → u ≡ representable a → bytes ≡ w.text a → o ≡ write_text w a buffer
    unfolding write_text write_back
    writes same_refl same_true a buffer o h k e =
        o
        ∙ rw (
          h,
          k,
          e,
          decided (read_text f) w.text w.same same_refl same_true
              (λ b. is_representable (f.clock b) && representable b) passes reads a,
        )

-- ---- formats of clock times alone
pub record DecidesClock
    (layout : List ℕ) (fault : List ℕ → Bool) (fields : List ℕ → ClockTime) (text : ClockTime → List ℕ)
    (representable : ClockTime → Bool) : Type 0 where
  -- what is read is representable and has an offset in range
  pub offset : (s : List ℕ) → offset_in_range (fields s).utc_offset ≡ true
  pub read_representable : (s : List ℕ) → representable (fields s) ≡ true
  -- a text fits its layout and has no fault, and that of a valid reading that is representable says the same
  pub fits : (t : ClockTime) → FitsLayout layout (text t)
  pub faultless : (t : ClockTime) → fault (text t) ≡ false
  pub says : (t : ClockTime) → is_representable t ≡ true → representable t ≡ true → fields (text t) ≡ t

module _
    {layout : List ℕ} {fault : List ℕ → Bool} {fields : List ℕ → ClockTime} {text : ClockTime → List ℕ}
    {representable : ClockTime → Bool} (d : DecidesClock layout fault fields text representable)
  where
    abbrev clock_text : Format ClockTime
    clock_text = clock_format layout fault fields

    abbrev clock_written : WrittenFormat ClockTime
    clock_written = written_clock clock_text text

    clock_decides : Decides clock_text text representable
    clock_decides =
        record {
          supported = λ t. refl;
          offset = λ s r. d.offset s;
          read_representable = λ s r. d.read_representable s;
          fits = λ t h k. d.fits t;
          flags = λ t h k. d.faultless t;
          own = λ t h k. tt;
          agrees = λ t h k. refl;
          says = d.says;
        }

    pub clock_valid : (s : List ℕ) (t : ClockTime) → read_text clock_text s ≡ accepted t
        → is_reading t ≡ true
    clock_valid = valid_answer clock_written representable clock_decides

    pub clock_written_lem : ((s : List ℕ) → PassesText clock_text s → text (fields s) ≡ s) → (s : List ℕ) (t : ClockTime)
        → (read_text clock_text s ≡ accepted t) ↔ (((is_representable t && representable t) ≡ true) × (text t ≡ s))
    clock_written_lem = read_written clock_written representable clock_decides

    pub clock_writes : (t : ClockTime) (buffer : List ℕ) {u v : Bool} {bytes : List ℕ} {o : Written}
        → o ≡ writing (u && v) bytes buffer → u ≡ is_representable t → v ≡ representable t → bytes ≡ text t
        → o ≡ write_text clock_written t buffer
    clock_writes = writes clock_written representable clock_decides same_time_refl same_time_true
