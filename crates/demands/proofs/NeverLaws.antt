-- No refusal has the number 0, which C takes for success.
use Prim.Native.Nat.{ℕ}
use native.Mathlib.Omega.{arith}
use mathlib.Core.Path.{◌≡◌, refl, sym, ◌∙◌}
use mathlib.Core.Bool.{Bool, true, false, not}
use mathlib.Core.List.{List, [], ◌∷◌}
use lib.Dec.{leb}
use lib.ListN.{length}
use lib.IntN.{ℤ}
use Rattle.clock_time.specs.Errors.{refused, given}
use Rattle.calendar.specs.UnixTime.{instant_of}
use Rattle.dcf77.specs.Minute.{read_minute}
use Rattle.dcf77_outcome.specs.Instant.{outcome_unix_time}
use Rattle.c_fields.specs.Ranges.{time_from}
use Rattle.time_string.specs.Row.{all_kinds}
use Rattle.time_string.specs.Kind.{kind_number, named_kind, read_as}
use Rattle.time_string.proofs.KindLaws.{kind_laws}
use Rattle.c_readings.specs.Strings.{kind_number_of, read_numbered, unix_time_of}
use Rattle.demands.specs.Lines.{minute_order, kind_lines, instant_lines_of}
use Rattle.demands.proofs.ReaderLaws.{number_named}
use Rattle.demands.proofs.Checks.{kind_checks}
use Rattle.demands.proofs.EntryLaws as entry
use Rattle.demands.proofs.AgreeLaws as agrees
use Rattle.demands.proofs.InstantLaws as instants
use Rattle.demands.proofs.OrderLaws.{ordered, never_0}
use Rattle.demands.proofs.Demand1 as demand-1

pub kind_0 : (s : List ℕ) → kind_number_of s ≡ refused 0 → ⊥
kind_0 s =
    never_0 _ (1 ∷ []) refl (kind_number_of s)
    (ordered (kind_number (entry.told_kind s)) (kind_checks s) (kind_lines s) (agrees.kind_agrees s) (kind_number_of s)
    (entry.kind_number_checks s))

pub read_0 : (n : ℕ) (s : List ℕ) → read_numbered n s ≡ refused 0 → ⊥
read_0 n s h = go (leb (length all_kinds) n) refl
  where
    go : (t : Bool) → leb (length all_kinds) n ≡ t → ⊥
    go true e = let z : ◌≡◌ {A = ℕ} 1 0 = cc (sym (entry.read_unknown n s e) ∙ h) in omega (arith, z)
    go false e =
        let k = named_kind n in
        never_0 _ _ (kind_laws k).row.above_0 (read_as k s) (demand-1.read_by_kind k s)
        (sym (entry.read_named k s) ∙ (rw (number_named n e) at h))

pub minute_0 : (m : List ℕ) → read_minute m ≡ refused 0 → ⊥
minute_0 m = never_0 _ minute_order refl (read_minute m) (demand-1.read_minute_lem m)

pub instant_0 : (z : List ℤ) → unix_time_of z ≡ refused 0 → ⊥
instant_0 z =
    never_0 _ (23 ∷ []) refl (unix_time_of z)
    (ordered (instant_of (time_from z)) (given 23 (not (instants.of_valid z)) ∷ []) (instant_lines_of z)
    (instants.numbers_agree z) (unix_time_of z) (instants.numbers_checks z))

pub outcome_time_0 : (n : ℕ) → outcome_unix_time n ≡ refused 0 → ⊥
outcome_time_0 n = never_0 _ (23 ∷ []) refl (outcome_unix_time n) (demand-1.outcome_unix_time_lem n)
