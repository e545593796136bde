-- Each entry's checks agree with its lines in words.
use Prim.Native.Nat.{ℕ, ◌<◌}
use mathlib.Core.Path.{◌≡◌, refl, ap}
use mathlib.Core.Logic.{◌↔◌, ◌⊎◌}
use mathlib.Core.Bool.{true, not, false≢true}
use mathlib.Core.List.{List, [], ◌∷◌, ◌++◌}
use lib.Dec.{leb, ltb}
use lib.ListN.{length}
use lib.IntN.{ℤ}
use Rattle.c_numbers.specs.Numbers.{minute_count}
use Rattle.clock_time.specs.Errors.{given}
use Rattle.clock_time.specs.Order.{Line, numbers_of}
use Rattle.clock_time.specs.declared.ClockTime.{ClockTime}
use Rattle.clock_time.proofs.ExactLaws.{eq_exactly, le_exactly, lt_exactly, not_exactly, either_exactly}
use Rattle.clock_time.proofs.OrderLaws.{Agree, agree_append}
use Rattle.gregorian.specs.Date.{supported_date, first_year, last_year}
use Rattle.calendar.specs.UnixTime.{is_reading}
use Rattle.gregorian.proofs.RulesLaws.{supported_exactly}
use Rattle.calendar.proofs.RulesLaws.{valid_exactly}
use Rattle.dcf77.specs.Minute.{minute_checks}
use Rattle.dcf77.proofs.LinesLaws as minutes
use Rattle.dcf77_outcome.specs.Instant.{is_minute_number}
use Rattle.dcf77_outcome.proofs.Theorems.{minute_number_exactly}
use Rattle.recording.specs.Recording.{unfit, correction_checks}
use Rattle.dcf77.specs.Lines.{minute_lines}
use Rattle.time_string.specs.Row.{text_order}
use Rattle.time_string.specs.declared.Kind.{Kind}
use Rattle.time_string.proofs.KindLaws.{kind_laws, untold}
use Rattle.demands.specs.Lines.{lines_as, kind_lines, outcome_lines, fill_lines, correction_lines, instant_lines}
use Rattle.demands.specs.Lines.{date_lines, number_count, read_lines, read_minute_lines, feed_lines}
use Rattle.demands.specs.Lines.{own_numbers, no_room_for, outcome_time_lines}
use Rattle.demands.proofs.Checks.{checks_as, kind_checks, room_check, read_checks, read_minute_checks}

-- ---- strings and minutes
pub kind_agrees : (s : List ℕ) → Agree (kind_checks s) (kind_lines s)
kind_agrees s = (
  refl,
  (
    λ h kind e. let some = (kind_laws kind).some s e in false≢true (rw some.1 at h),
    λ none. rw (untold s none) refl,
  ),
  λ p. tt,
)

-- ---- recordings
pub outcome_agrees : (marks : List ℕ) (place : ℕ) →
    Agree (given 20 (ltb 100000 (length marks)) ∷ given 21 (leb (length marks) place) ∷ []) (outcome_lines marks place)
outcome_agrees marks place = (refl, lt_exactly _ _, λ p. (refl, le_exactly _ _, λ q. tt))

pub outcome_time_agrees : (n : ℕ) → Agree (given 23 (not (is_minute_number n)) ∷ []) (outcome_time_lines n)
outcome_time_agrees n = (refl, not_exactly _ (minute_number_exactly n), λ p. tt)

unfit_exactly : (m n : ℕ) → (unfit m n ≡ true) ↔ ((m ≡ n → ⊥) ⊎ (100000 < m))
unfit_exactly m n = either_exactly _ _ (not_exactly _ (eq_exactly m n)) (lt_exactly 100000 m)

pub fill_agrees : (marks outcomes : List ℕ) →
    Agree (given 20 (unfit (length marks) (length outcomes)) ∷ []) (fill_lines marks outcomes)
fill_agrees marks outcomes = (refl, unfit_exactly _ _, λ p. tt)

pub correction_agrees : (marks outcomes : List ℕ) (place mark : ℕ) →
    Agree (correction_checks marks outcomes place mark) (correction_lines marks outcomes place mark)
correction_agrees marks outcomes place mark =
    (refl, unfit_exactly _ _, λ p. (refl, le_exactly _ _, λ q. (refl, lt_exactly _ _, λ r. tt)))

-- ---- the instant and dates
pub instant_agrees : (t : ClockTime) → Agree (given 23 (not (is_reading t)) ∷ []) (instant_lines t)
instant_agrees t = (refl, not_exactly _ (valid_exactly t), λ p. tt)

pub date_agrees : (year month day : ℕ) →
    Agree (given 5 (not (supported_date first_year last_year year month day)) ∷ []) (date_lines year month day)
date_agrees year month day = (refl, not_exactly _ (supported_exactly year month day), λ p. tt)

-- ---- from C
pub room_agrees : (count : ℕ) (fields : List ℤ) → Agree (room_check count fields ∷ []) (no_room_for count fields ∷ [])
room_agrees count fields = (refl, lt_exactly _ _, λ p. tt)

pub read_agrees : (kind : Kind) (s : List ℕ) (fields : List ℤ)
    → Agree (read_checks kind s fields) (read_lines kind s fields)
read_agrees kind s fields =
    agree_append (checks_as kind s) (lines_as kind s) _ _ ((kind_laws kind).row.agree s)
    (λ q. room_agrees (number_count kind) fields)

numbers_append : (ks ls : List Line) → numbers_of (ks ++ ls) ≡ numbers_of ks ++ numbers_of ls
numbers_append [] ls = refl
numbers_append (k ∷ ks) ls = ap (λ (ns : List ℕ). k.number ∷ ns) (numbers_append ks ls)

pub read_numbers : (kind : Kind) (s : List ℕ) (fields : List ℤ)
    → numbers_of (read_lines kind s fields) ≡ text_order (own_numbers kind) ++ (20 ∷ [])
read_numbers kind s fields = rw (numbers_append (lines_as kind s), (kind_laws kind).row.order s)

pub read_minute_agrees : (m : List ℕ) (fields : List ℤ) → Agree (read_minute_checks m fields) (read_minute_lines m fields)
read_minute_agrees m fields =
    agree_append (minute_checks m) (minute_lines m) _ _ (minutes.agrees m) (λ q. room_agrees minute_count fields)

pub feed_agrees : (state : List ℕ) → Agree (given 20 (ltb (length state) 68) ∷ []) (feed_lines state)
feed_agrees state = (refl, lt_exactly _ _, λ p. tt)
