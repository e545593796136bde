-- The main results of the number of a run.
use Prim.Native.Nat.{ℕ}
use mathlib.Core.Path.{◌≡◌, refl}
use mathlib.Core.Logic.{◌↔◌}
use mathlib.Core.Bool.{true}
use mathlib.Core.List.{List}
use Rattle.calendar.specs.UnixTime.{unix_time}
use Rattle.dcf77.specs.Accepts.{AcceptsMinute}
use Rattle.dcf77.specs.declared.MinuteTime.{MinuteTime}
use Rattle.dcf77.specs.Minute.{minute_text}
use Rattle.dcf77.proofs.Theorems.{read_minute_exactly, read_is_written}
use Rattle.dcf77_outcome.specs.Number.{run_number}
use Rattle.dcf77_outcome.specs.Instant.{is_minute_number, outcome_unix_time}
use Rattle.dcf77_outcome.specs.RunNumber.{MinuteNumber, RunNumber, HasMinute}
use Rattle.dcf77_outcome.proofs.NumberLaws.{number_outcome, accepted_number, run_exactly}
use Rattle.dcf77_outcome.proofs.InstantLaws.{has_number, accepted_instant}
use Rattle.dcf77_outcome.proofs.MinuteLaws.{number_minute}

-- "at a gap the refusal number; or, accepted, 100 + [..]" (01, Tape and sheet): what is worked out is the number in
-- words, and no other
pub run_number_exactly : (m : List ℕ) (n : ℕ) → (run_number m ≡ n) ↔ RunNumber m n
run_number_exactly = run_exactly

-- a number passes exactly if it is that of some accepted minute
pub minute_number_exactly : (n : ℕ) → (is_minute_number n ≡ true) ↔ HasMinute n
minute_number_exactly n = (
  λ h.
      let w = number_minute n h in
      let a = w.0 in
      let e = (read_is_written (minute_text a) a).1 (w.1.0, refl) in
      (minute_text a, (a, ((read_minute_exactly (minute_text a) a).0 e, rw w.1.1 at (accepted_number _ a e)))),
  λ w.
      let a = w.1.0 in
      let e = (read_minute_exactly w.0 a).1 w.1.1.0 in
      rw (number_outcome a n w.1.1.1) at (has_number w.0 a e),
)

-- a number announces the instant of every accepted minute that has it
pub announced_instant : (m : List ℕ) (a : MinuteTime) → AcceptsMinute m a → (n : ℕ) → MinuteNumber a n
    → outcome_unix_time n ≡ unix_time a.time
announced_instant m a h n w =
    rw (number_outcome a n w) at (accepted_instant m a ((read_minute_exactly m a).1 h))
