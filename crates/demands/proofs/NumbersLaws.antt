-- Readings as the numbers that C has: what is accepted has numbers that stand for it again, and these are written as
-- the kind's writer would.
use Prim.Native.Nat.{ℕ}
use mathlib.Core.Path.{◌≡◌, refl, sym, subst, ◌∙◌}
use mathlib.Core.Bool.{Bool, true, false, true≢false}
use mathlib.Core.List.{List, [], ◌∷◌, ◌++◌, append-nil}
use lib.ListN.{length}
use lib.IntN.{ℤ}
use lib.Dec.{leb}
use Rattle.clock_time.specs.Errors.{refused}
use Rattle.clock_time.specs.Exit.{exit}
use Rattle.clock_time.specs.Called.{called_both}
use Rattle.clock_time.proofs.ErrorLaws.{accepted_passes}
use Rattle.calendar.specs.Rules.{ValidReading}
use Rattle.dcf77.specs.Minute.{write_minute}
use Rattle.dcf77.specs.declared.MinuteTime.{MinuteTime}
use Rattle.dcf77.proofs.Theorems as minutes
use Rattle.time_string.specs.declared.Reading.{Reading}
use Rattle.time_string.specs.declared.Reading.TheVariants.{Time, TimeAndPosition}
use Rattle.time_string.specs.Row.{reading_time, kind_row, all_kinds}
use Rattle.time_string.specs.Kind.{kind_number, named_kind}
use Rattle.time_string.specs.Accepted.{AcceptsAs}
use Rattle.time_string.specs.declared.Kind.{Kind}
use Rattle.c_numbers.specs.Numbers.{time_numbers, gps_numbers, minute_numbers, minute_count}
use Rattle.c_fields.specs.Ranges.{minute_of}
use Rattle.c_fields.proofs.Theorems as fields
use Rattle.c_writer.specs.Writers.{write_as, write_from, write_minute_from}
use Rattle.c_readings.specs.Strings.{reading_numbers}
use Rattle.demands.specs.Accepted.{AcceptsNumbered, AcceptsNumbers, AcceptsMinuteNumbers}
use Rattle.demands.specs.Lines.{number_count, write_lines}
use Rattle.demands.specs.Exactly.{WritesExactly, CallWritesExactly}
use Rattle.demands.proofs.OrderLaws.{Decided, decided_after}
use Rattle.demands.proofs.WriterLaws.{Settled, settled, settled_same, writer_decided, numbers_settled}
use Rattle.demands.proofs.WriterLaws.{writes_exactly, call_writes_exactly}
use Rattle.demands.proofs.FitsLaws.{valid_fits, marks_small}
use Rattle.demands.proofs.KindLaws.{row_checks, kind_long, kind_exactly, kind_valid, kind_settles, numbered_23}
use Rattle.demands.proofs.Checks.{checks_as, reading_as, kind_check}
use Rattle.demands.proofs.EntryLaws.{kind_named_lem}
use Rattle.demands.proofs.ReaderLaws.{number_named, named_exactly, unknown_exactly}

-- ---- writing by the kind that a number names
-- a kind's number is known, and names it
named_number : (n : ℕ) (kind : Kind) → n ≡ kind_number kind → (leb (length all_kinds) n ≡ false) × (named_kind n ≡ kind)
named_number n kind e =
    let w = accepted_passes (kind_check n ∷ []) (named_kind n) kind (sym (kind_named_lem n) ∙ (named_exactly n kind).1 e) in
    (w.0.0, sym w.1)

numbered_settled : (n : ℕ) → leb (length all_kinds) n ≡ false → (z : List ℤ) (d : List ℕ)
    → Settled (λ s. AcceptsNumbers n s z) d (write_as (named_kind n) z d)
unfolding write_as
numbered_settled n known z d =
    settled_same (λ s. (
      λ h. (h.0, ((named_kind n, (number_named n known, h.1.0)), h.1.1)),
      λ h.
          let q = (named_number n h.1.0.0 h.1.0.1.0).1 in
          (h.0, (subst (λ (k : Kind). AcceptsAs k s h.0) (sym q) h.1.0.1.1, h.1.1)),
    )) (kind_settles (named_kind n) z d)

module _ (n : ℕ) (z : List ℤ) (d : List ℕ) where
  from_known : leb (length all_kinds) n ≡ false → write_from n z d ≡ write_as (named_kind n) z d
  unfolding write_from
  from_known e = rw (kind_named_lem n, e)

  from_unknown : leb (length all_kinds) n ≡ true → write_from n z d ≡ exit (refused 1) d
  unfolding write_from
  from_unknown e = rw (kind_named_lem n, e)

  known_settled : leb (length all_kinds) n ≡ false → Settled (λ s. AcceptsNumbers n s z) d (write_from n z d)
  known_settled e = rw (from_known e) (numbered_settled n e z d)

  pub from_decided : Decided (write_lines n z d) d (write_from n z d)
  from_decided =
      decided_after _ (leb (length all_kinds) n) 0 (unknown_exactly n) from_unknown
      (λ e. writer_decided (known_settled e))

  unknown_none : leb (length all_kinds) n ≡ true → (s : List ℕ) → AcceptsNumbers n s z → ⊥
  unknown_none e s h = true≢false (sym e ∙ (named_number n h.1.0.0 h.1.0.1.0).0)

  pub from_exactly : WritesExactly (λ s. AcceptsNumbers n s z) d (write_from n z d)
  from_exactly = go (leb (length all_kinds) n) refl
    where
      go : (b : Bool) → leb (length all_kinds) n ≡ b → WritesExactly (λ s. AcceptsNumbers n s z) d (write_from n z d)
      go false e = writes_exactly (known_settled e)
      go true e =
          rw (from_unknown e) (record {
            write_read = λ s h. absurd (unknown_none e s h);
            refused_exactly = λ room. (λ r s h. unknown_none e s h, λ none. (1, refl));
          })

  pub call_from_exactly : (old : ℕ) → CallWritesExactly (λ s. AcceptsNumbers n s z) d (called_both old (write_from n z d))
  call_from_exactly old = go (leb (length all_kinds) n) refl
    where
      go : (b : Bool) → leb (length all_kinds) n ≡ b
          → CallWritesExactly (λ s. AcceptsNumbers n s z) d (called_both old (write_from n z d))
      go false e = call_writes_exactly (known_settled e) old
      go true e =
          rw (from_unknown e) (record {
            write_read = λ s h. absurd (unknown_none e s h);
            refused_exactly = λ room. (λ r s h. unknown_none e s h, λ none. (0, refl));
          })

-- ---- minutes
pub minute_settled : (z : List ℤ) (d : List ℕ)
    → Settled (λ m. AcceptsMinuteNumbers m z) d (write_minute_from z d)
unfolding write_minute_from
minute_settled z d =
    numbers_settled write_minute minute_of minute_numbers (settled minutes.faithful) fields.numbers_minute
    (λ m a h.
    let read = ((minutes.faithful).reader.accepted_exactly m a).1 h in
    fields.minute_numbers_lem a (valid_fits a.time (minutes.valid_read m a read)) (marks_small m a read))
    (λ x k e. numbered_23 _ _ k e) z d

-- ---- the numbers that a call left
pub minute_numbers_long : (a : MinuteTime) → length (minute_numbers a) ≡ minute_count
unfolding minute_numbers time_numbers
minute_numbers_long a = refl

-- more numbers than those of its clock time
more_numbers : (r : Reading) → (rest : List ℤ) × (reading_numbers r ≡ time_numbers (reading_time r) ++ rest)
unfolding gps_numbers
more_numbers (Time t) = ([], sym (append-nil (time_numbers t)))
more_numbers (TimeAndPosition g) = (_, refl)

-- as many as the kind has
pub numbers_long : (kind : Kind) (s : List ℕ) (r : Reading) → AcceptsAs kind s r
    → length (reading_numbers r) ≡ number_count kind
numbers_long kind s r h =
    let read = (kind_exactly kind s r).1 h in
    let w = accepted_passes (checks_as kind s) (reading_as kind s) r (sym (row_checks (kind_row kind) s) ∙ read) in
    rw w.1 (kind_long kind s)

-- the first 14 are those of a valid reading
pub valid_numbers : (n : ℕ) (s : List ℕ) (r : Reading) → AcceptsNumbered n s r
    → ValidReading (reading_time r) × (rest : List ℤ) × (reading_numbers r ≡ time_numbers (reading_time r) ++ rest)
valid_numbers n s r h = let more = more_numbers r in (kind_valid h.0 s r h.1.1, more.0, more.1)
