-- Each reader's definition is its checks, in their order, and then what it gives.
use Prim.Native.Nat.{ℕ}
use mathlib.Core.Path.{◌≡◌, refl, ap, ◌∙◌}
use mathlib.Core.Bool.{Bool, true, false, cond, not}
use mathlib.Core.List.{List, [], ◌∷◌, ◌++◌}
use lib.Dec.{leb}
use lib.ListN.{length, drop}
use lib.IntN.{ℤ}
use Rattle.clock_time.specs.Errors.{Answer, accepted, refused, given, checked}
use Rattle.clock_time.specs.Called.{and_then}
use Rattle.clock_time.specs.Exit.{leaves}
use Rattle.clock_time.proofs.ErrorLaws.{apart}
use Rattle.calendar.specs.UnixTime.{is_reading, instant_of, unix_time}
use Rattle.time_string.specs.Row.{kind_row, all_kinds}
use Rattle.time_string.specs.Kind.{is_told, first_told, kind_of, kind_number, kind_named, named_kind, read_as}
use Rattle.time_string.specs.declared.Kind.{Kind}
use Rattle.time_string.specs.declared.Kind.TheVariants.{Standard}
use Rattle.time_string.proofs.KindLaws.{kind_laws}
use Rattle.dcf77.specs.Minute.{minute_checks, minute_fields, read_minute}
use Rattle.c_numbers.specs.Numbers.{time_numbers, minute_numbers, put_numbers, put_answer, minute_count}
use Rattle.clock_time.specs.FieldRanges.{time_ranges}
use Rattle.c_fields.specs.Ranges.{fits, time_from, numbered}
use Rattle.c_readings.specs.Strings.{kind_number_of, reading_numbers, read_numbered, read_into, unix_time_of}
use Rattle.c_readings.specs.Minutes.{read_minute_into}
use Rattle.demands.specs.Lines.{number_count}
use Rattle.demands.proofs.KindLaws.{row_checks, kind_long}
use Rattle.demands.proofs.Checks.{checks_as, reading_as, is_untold, kind_checks, kind_check, room_check, read_checks}
use Rattle.demands.proofs.Checks.{read_minute_checks}
use Rattle.demands.proofs.OrderLaws.{then_checked, then_leaves}

-- ---- the kind of a string
-- the kind that was told, any if none was
abbrev told_in : Answer Kind → Kind
told_in (accepted kind) = kind
told_in (refused n) = Standard

abbrev pub told_kind : List ℕ → Kind
told_kind s = told_in (kind_of s)

refused_1 : (s : List ℕ) (n : ℕ) (ks : List Kind) → first_told s ks ≡ refused n → n ≡ 1
refused_1 s n [] h = cc
refused_1 s n (k ∷ ks) h = go (is_told (kind_row k) s) h (refused_1 s n ks)
  where
    go : (t : Bool) → cond t (accepted k) (first_told s ks) ≡ refused n → (first_told s ks ≡ refused n → n ≡ 1) → n ≡ 1
    go true e later = apart e
    go false e later = later e

pub kind_checks_lem : (s : List ℕ) → kind_of s ≡ checked (kind_checks s) (told_kind s)
unfolding kind_of
kind_checks_lem s = go (first_told s all_kinds) (λ n. refused_1 s n all_kinds)
  where
    go : (a : Answer Kind) → ((n : ℕ) → a ≡ refused n → n ≡ 1)
        → a ≡ checked (given 1 (is_untold a) ∷ []) (told_in a)
    go (accepted kind) h = refl
    go (refused n) h = ap refused (h n refl)

pub kind_number_checks : (s : List ℕ) → kind_number_of s ≡ checked (kind_checks s) (kind_number (told_kind s))
unfolding kind_number_of
kind_number_checks s =
    ap (λ (a : Answer Kind). and_then a (λ k. accepted (kind_number k))) (kind_checks_lem s)
    ∙ then_checked (told_kind s) (kind_number (told_kind s)) [] (λ k. accepted (kind_number k)) refl (kind_checks s)

pub kind_named_lem : (n : ℕ) → kind_named n ≡ checked (kind_check n ∷ []) (named_kind n)
unfolding kind_named
kind_named_lem n = refl

-- ---- reading strings
-- by the number of a kind, as that kind's reader does
pub read_named : (kind : Kind) (s : List ℕ) → read_numbered (kind_number kind) s ≡ read_as kind s
unfolding read_numbered
read_named kind s = rw (kind_laws kind).named

-- by a number that names none
pub read_unknown : (n : ℕ) (s : List ℕ) → leb (length all_kinds) n ≡ true → read_numbered n s ≡ refused 1
unfolding read_numbered
read_unknown n s e = rw (kind_named_lem n, e)

-- numbers in front of those lent
abbrev pub in_front : List ℤ → List ℤ → List ℤ
in_front numbers fields = numbers ++ drop (length numbers) fields

pub put_checks : {A : Type 0} (numbers : A → List ℤ) (fields : List ℤ) (a : A) (count : ℕ) → length (numbers a) ≡ count
    → put_numbers (numbers a) fields
    ≡ leaves fields (in_front (numbers a) fields) (checked (room_check count fields ∷ []) tt)
unfolding put_numbers
put_checks numbers fields a count e = rw e refl

pub read_checks_lem : (kind : Kind) (s : List ℕ) (fields : List ℤ) → read_into (kind_number kind) s fields
    ≡ leaves fields (in_front (reading_numbers (reading_as kind s)) fields) (checked (read_checks kind s fields) tt)
unfolding read_into put_answer read_as
read_checks_lem kind s fields =
    let a = reading_as kind s in
    rw (read_named kind s, row_checks (kind_row kind) s)
    (then_leaves a tt (room_check (number_count kind) fields ∷ []) fields (in_front (reading_numbers a) fields)
    (λ x. put_numbers (reading_numbers x) fields)
    (put_checks reading_numbers fields a (number_count kind) (kind_long kind s)) (checks_as kind s))

-- ---- minutes
pub read_minute_checks_lem : (m : List ℕ) (fields : List ℤ) → read_minute_into m fields
    ≡ leaves fields (in_front (minute_numbers (minute_fields m)) fields) (checked (read_minute_checks m fields) tt)
unfolding read_minute_into put_answer read_minute minute_numbers time_numbers
read_minute_checks_lem m fields =
    let a = minute_fields m in
    then_leaves a tt (room_check minute_count fields ∷ []) fields (in_front (minute_numbers a) fields)
    (λ x. put_numbers (minute_numbers x) fields) (put_checks minute_numbers fields a minute_count refl) (minute_checks m)

-- ---- the instant
pub unix_time_checks : (z : List ℤ) → unix_time_of z
    ≡ checked (given 23 (not (fits time_ranges z)) ∷ given 23 (not (is_reading (time_from z))) ∷ [])
    (instant_of (time_from z))
unfolding unix_time_of numbered unix_time
unix_time_checks z =
    then_checked (time_from z) (instant_of (time_from z)) (given 23 (not (is_reading (time_from z))) ∷ []) unix_time refl
    (given 23 (not (fits time_ranges z)) ∷ [])
