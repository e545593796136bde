-- The Trimble string, read and read from C: its checks agree with its lines, and what it leaves has an instant.
use Prim.Native.Nat.{ℕ}
use mathlib.Core.Path.{◌≡◌, refl, ◌∙◌}
use mathlib.Core.List.{List, [], ◌∷◌, ◌++◌, append_assoc}
use lib.IntN.{ℤ, pos}
use Rattle.clock_time.specs.Errors.{refused, Check, checked}
use Rattle.clock_time.specs.Exit.{leaves}
use Rattle.clock_time.specs.Called.{called, called_answer}
use Rattle.clock_time.proofs.OrderLaws.{agree_append}
use Rattle.calendar.specs.UnixTime.{instant_of}
use Rattle.calendar.proofs.RulesLaws.{valid_exactly}
use Rattle.trimble_sv6.specs.Trimble.{trimble_fields, read_trimble}
use Rattle.trimble_sv6.specs.Accepts.{AcceptsTrimble}
use Rattle.trimble_sv6.specs.Lines.{trimble_order, trimble_lines}
use Rattle.trimble_sv6.specs.declared.TrimbleTime.{TrimbleTime}
use Rattle.trimble_sv6.proofs.Checks.{trimble_checks}
use Rattle.trimble_sv6.proofs.LinesLaws.{read_checks_lem, trimble_agrees}
use Rattle.trimble_sv6.proofs.Theorems as trimbles
use Rattle.c_numbers.specs.Numbers.{time_numbers, trimble_numbers, trimble_count, put_numbers, put_answer}
use Rattle.c_readings.specs.Strings.{unix_time_of}
use Rattle.c_readings.specs.Trimble.{read_trimble_into}
use Rattle.demands.specs.Refusals.{RefusesInOrder}
use Rattle.demands.specs.Lines.{no_room_for}
use Rattle.demands.specs.Trimble.{read_trimble_lines}
use Rattle.demands.proofs.OrderLaws.{ordered, then_leaves, Decided, decided, never_0}
use Rattle.demands.proofs.Checks.{room_check}
use Rattle.demands.proofs.EntryLaws.{in_front, put_checks}
use Rattle.demands.proofs.AgreeLaws.{room_agrees}
use Rattle.demands.proofs.InstantLaws.{instant_first}

pub read_ordered : (s : List ℕ) → RefusesInOrder (trimble_lines s) trimble_order (read_trimble s)
read_ordered s =
    ordered (trimble_fields s) (trimble_checks s) (trimble_lines s) (trimble_agrees s) (read_trimble s) (read_checks_lem s)

pub read_0 : (s : List ℕ) → read_trimble s ≡ refused 0 → ⊥
read_0 s = never_0 _ trimble_order refl (read_trimble s) (read_ordered s)

-- ---- from C
abbrev read_trimble_checks : List ℕ → List ℤ → List Check
read_trimble_checks s fields = trimble_checks s ++ (room_check trimble_count fields ∷ [])

module _ (s : List ℕ) (fields : List ℤ) where
  into_checks : read_trimble_into s fields
      ≡ leaves fields (in_front (trimble_numbers (trimble_fields s)) fields) (checked (read_trimble_checks s fields) tt)
  unfolding read_trimble_into put_answer trimble_numbers time_numbers
  into_checks =
      let a = trimble_fields s in
      rw (read_checks_lem s)
      (then_leaves a tt (room_check trimble_count fields ∷ []) fields (in_front (trimble_numbers a) fields)
      (λ x. put_numbers (trimble_numbers x) fields) (put_checks trimble_numbers fields a trimble_count refl)
      (trimble_checks s))

  pub read_decided : Decided (read_trimble_lines s fields) fields (read_trimble_into s fields)
  read_decided =
      decided (read_trimble_checks s fields) (read_trimble_lines s fields) fields
      (in_front (trimble_numbers (trimble_fields s)) fields) tt (read_trimble_into s fields)
      (agree_append (trimble_checks s) (trimble_lines s) (room_check trimble_count fields ∷ [])
      (no_room_for trimble_count fields ∷ []) (trimble_agrees s) (λ q. room_agrees trimble_count fields))
      into_checks

-- the numbers that a call left
pub instant_left : (s : List ℕ) (g : TrimbleTime) → AcceptsTrimble s g → (z rest : List ℤ)
    → z ≡ trimble_numbers g ++ rest → (old : ℤ) → called_answer old (unix_time_of z) ≡ called 0 (instant_of g.time)
unfolding trimble_numbers
instant_left s g h z rest e old =
    let valid = (valid_exactly g.time).0 (trimbles.valid_read s g ((trimbles.read_trimble_exactly s g).1 h)) in
    let milliseconds = pos g.milliseconds ∷ [] in
    instant_first g.time valid z (milliseconds ++ rest)
    (e ∙ append_assoc (time_numbers g.time) milliseconds rest) old
