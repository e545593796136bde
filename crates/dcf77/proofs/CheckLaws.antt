-- The checks of a minute: that of its length, and the others by parts, as the code goes through them.
use Prim.Native.Nat.{ℕ, ◌≤◌}
use native.Mathlib.Decide.{ℕ_discrete}
use native.Mathlib.Omega.{arith}
use mathlib.Core.Path.{◌≡◌, refl, sym, ap, ◌∙◌}
use mathlib.Core.Logic.{◌⊎◌, inl, inr, ⊎_elim}
use mathlib.Core.Bool.{Bool, true, false, cond, not, ◌&&◌, ◌||◌, and-true}
use mathlib.Core.List.{List, [], ◌∷◌, ◌++◌}
use lib.Dec.{ltb, eqb}
use lib.IntN.{ℤ}
use borrow.Author.Tests.{not-false, eqb-true, eq-eqb, ne_eqb}
use Rattle.std.specs.Prelude.{Option, Some, Result, Ok, Err, IfSome}
use Rattle.std.specs.Result.{IsErrAnd}
use Rattle.clock_time.specs.declared.Error.{Error}
use Rattle.clock_time.specs.Reading.{answer_of}
use Rattle.clock_time.specs.Errors.{error_number, Check, accepted, refused, checked, Passes}
use Rattle.clock_time.proofs.ErrorLaws.{apart, accepted_passes}
use Rattle.calendar.specs.TimeOfDay.{time_exists}
use Rattle.dcf77.specs.Minute.{announced, minute_fields, minute_checks, read_minute}
use Rattle.dcf77.specs.Numbers.{start_checks, number_checks, date_checks, time_checks}
use Rattle.dcf77.specs.declared.marks.SureRun.{SureRun}
use Rattle.dcf77.specs.declared.reading.Minute.{Minute}
use Rattle.dcf77.specs.declared.MinuteTime.{MinuteTime}
use Rattle.dcf77.proofs.NumberLaws.{group_odd, digits_fit}

pub two_lengths : (n : ℕ) → (eqb n 59 || eqb n 60) ≡ true → (n ≡ 59) ⊎ (n ≡ 60)
two_lengths n h = go (eqb n 59) refl h
  where
    go : (t : Bool) → eqb n 59 ≡ t → (t || eqb n 60) ≡ true → (n ≡ 59) ⊎ (n ≡ 60)
    go true e h = inl (eqb-true _ _ e)
    go false e h = inr (eqb-true _ _ h)

pub length_between : (n : ℕ) → not (eqb n 59 || eqb n 60) ≡ false → (59 ≤ n) × (n ≤ 60)
length_between n h =
    ⊎_elim (λ e. (omega arith, omega arith)) (λ e. (omega arith, omega arith)) (two_lengths n (not-false _ h))

pub run_length : (n : ℕ) → 59 ≤ n → n ≤ 60 → (eqb n 59 || eqb n 60) ≡ true
run_length n h k = elim (ℕ_discrete n 59) [
  | yes e ↦ simp (eq-eqb n 59 e)
  | no d ↦ simp (ne_eqb n 59 d, eq-eqb n 60 (omega arith))
]

-- ---- the checks by parts
-- what `?` hands back is the refusal
pub refused_by : {A : Type 0} (r : Result A Error) (e : Error) → IsErrAnd r (λ d. d ≡ e)
    → answer_of r ≡ refused (error_number e)
refused_by (Ok a) e h = absurd h
refused_by (Err d) e h = ap (λ (x : Error). refused (error_number x)) h

stopped : {A : Type 0} (ks more : List Check) (a : A) (n : ℕ) → refused n ≡ checked {A = Unit {0}} ks tt
    → refused n ≡ checked (ks ++ more) a
stopped [] more a n h = apart (sym h)
stopped (k ∷ ks) more a n h = go k.fails h (stopped ks more a n)
  where
    go : (t : Bool) → refused n ≡ cond t (refused k.number) (checked {A = Unit {0}} ks tt)
        → (refused n ≡ checked {A = Unit {0}} ks tt → refused n ≡ checked (ks ++ more) a)
        → refused n ≡ cond t (refused k.number) (checked (ks ++ more) a)
    go true e later = cc
    go false e later = later e

passed : {A : Type 0} (ks more : List Check) (a : A) → Passes ks → checked more a ≡ checked (ks ++ more) a
passed [] more a p = refl
passed (k ∷ ks) more a p = rw p.0 (passed ks more a p.1)

-- none of some checks fails, or k is the number of the first that does
abbrev AllPass : List Check → Type 0
AllPass ks = accepted tt ≡ checked {A = Unit {0}} ks tt

abbrev Refused : ℕ → List Check → Type 0
Refused k ks = refused k ≡ checked {A = Unit {0}} ks tt

goes_on : {A : Type 0} (ks more : List Check) (a : A) → AllPass ks → checked more a ≡ checked (ks ++ more) a
goes_on ks more a h = passed ks more a (accepted_passes ks tt tt (sym h)).0

-- what the answer to a run still depends on: these checks, and the minute if none of them fails
pub record Remaining (m : List ℕ) (ks : List Check) (a : MinuteTime) : Type 0 where
  pub says : read_minute m ≡ checked ks a

-- some checks that were gone through: the code stops at the first that fails, or they have passed
module _ {m : List ℕ} (ks more : List Check) {a : MinuteTime} (remaining : Remaining m (ks ++ more) a) where
  pub stops : {k : ℕ} → Refused k ks → read_minute m ≡ refused k
  stops {k} h = remaining.says ∙ sym (stopped ks more a k h)

  pub passes : AllPass ks → Remaining m more a
  passes h = record { says = remaining.says ∙ sym (goes_on ks more a h) }

no_second : (hour minute : ℕ) (offset : ℤ) → time_exists hour minute 0 offset ≡ (ltb hour 24 && ltb minute 60)
unfolding time_exists
no_second hour minute offset = and-true (ltb hour 24 && ltb minute 60)

-- the checks of the date and of the time that were read
abbrev pub dated : MinuteTime → List Check
dated a = date_checks a.time.weekday a.time.year a.time.month a.time.day

abbrev pub timed : List ℕ → MinuteTime → List Check
timed m a = time_checks m a.time.hour a.time.minute

-- the code goes through the checks of a run of sure marks part by part
module _ (r : Minute) where
  abbrev m : List ℕ
  m = r.run.marks.now

  abbrev numbers : List Check
  numbers = number_checks r.minute r.hour r.date

  abbrev later : List Check
  later = let a = minute_fields m in dated a ++ timed m a

  all_left : Remaining m (start_checks m ++ (numbers ++ later)) (minute_fields m)
  unfolding read_minute minute_checks minute_fields announced
  all_left =
      let k = r.numbers in
      record {
        says =
            simp (
              run_length _ k.run.long r.run.is_short,
              k.run.sure,
              group_odd k.run 8 21 k.minute,
              group_odd k.run 7 29 k.hour,
              group_odd k.run 23 36 k.date,
              digits_fit k,
              no_second,
            );
      }

  pub in_start : (k : ℕ) → Refused k (start_checks m) → refused k ≡ read_minute m
  in_start k h = sym (stops (start_checks m) (numbers ++ later) all_left h)

  module _ (s : AllPass (start_checks m)) where
    numbers_left : Remaining m (numbers ++ later) (minute_fields m)
    numbers_left = passes (start_checks m) (numbers ++ later) all_left s

    pub in_numbers : (k : ℕ) → Refused k numbers → refused k ≡ read_minute m
    in_numbers k h = sym (stops numbers later numbers_left h)

    module _ (n : AllPass numbers) (a : MinuteTime) (e : a ≡ minute_fields m) where
      fields_left : Remaining m (dated a ++ timed m a) a
      fields_left = rw e (passes numbers later numbers_left n)

      pub in_date : (k : ℕ) → Refused k (dated a) → refused k ≡ read_minute m
      in_date k h = sym (stops (dated a) (timed m a) fields_left h)

      module _ (d : AllPass (dated a)) where
        time_left : Remaining m (timed m a) a
        time_left = passes (dated a) (timed m a) fields_left d

        pub in_time : (k : ℕ) → Refused k (timed m a) → refused k ≡ read_minute m
        in_time k h = sym (stops (timed m a) [] time_left h)

        pub none_fails : AllPass (timed m a) → accepted a ≡ read_minute m
        none_fails h = sym (passes (timed m a) [] time_left h).says

-- the minute of the run that is made of some marks
pub marks_of : (m : List ℕ) (r : Minute) {o : Option SureRun} {run : SureRun} → o ≡ Some run
    → IfSome o (λ x. x.marks.now ≡ m) → r.run ≡ run → read_minute r.run.marks.now ≡ read_minute m
marks_of m r {o} {run} o_is same run_is =
    ap read_minute (ap (λ (x : SureRun). x.marks.now) run_is ∙ rw o_is at same)
