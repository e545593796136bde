-- The main results of the position of a GPS string.
use Prim.Native.Nat.{ℕ}
use mathlib.Core.Path.{◌≡◌, refl, ◌∙◌}
use mathlib.Core.Logic.{◌↔◌}
use mathlib.Core.List.{List, [], ◌∷◌}
use Rattle.clock_time.specs.Errors.{accepted, refused, given}
use Rattle.clock_time.specs.Order.{Gives}
use Rattle.clock_time.specs.declared.Position.{Position}
use Rattle.clock_time.proofs.ErrorLaws.{accepted_passes, passes_accepted}
use Rattle.clock_time.proofs.OrderLaws as orders
use Rattle.clock_time.proofs.OrderLaws.{Agree}
use Rattle.layout.proofs.ExactLaws.{fault_exactly}
use Rattle.meinberg_gps_position.specs.Position.{position_fault, position_of, read_position}
use Rattle.meinberg_gps_position.specs.Rules.{PositionRules, SaysPosition, position_lines}
use Rattle.meinberg_gps_position.proofs.RulesLaws.{position_exactly}
use Rattle.meinberg_gps_position.proofs.SaysLaws.{position_says, position_said}

-- a position is read exactly if its rules hold, and as what its letters and digits say
pub read_position_exactly : (s : List ℕ) (p : Position)
    → (read_position s ≡ accepted p) ↔ (PositionRules s × SaysPosition s p)
unfolding read_position
read_position_exactly s p = (
  λ h.
      let w = accepted_passes (given 9 (position_fault s) ∷ []) (position_of s) p h in
      rw w.1 ((position_exactly s).0 w.0.0, position_says s),
  λ r.
      passes_accepted (given 9 (position_fault s) ∷ []) (position_of s) ((position_exactly s).1 r.0, tt)
      ∙ rw (position_said s p r.0 r.1),
)

-- 9: "position" (01, Refusal numbers)
pub agrees : (s : List ℕ) → Agree (given 9 (position_fault s) ∷ []) (position_lines s)
agrees s = (refl, fault_exactly (position_fault s) (position_exactly s), λ nine. tt)

pub refused_position_exactly : (s : List ℕ) (n : ℕ) → (read_position s ≡ refused n) ↔ Gives (position_lines s) n
unfolding read_position
refused_position_exactly s =
    orders.refused_exactly (given 9 (position_fault s) ∷ []) (position_lines s) (agrees s) (position_of s)

-- a string whose position keeps the rules says one position and no other
pub says_one : (s : List ℕ) → PositionRules s
    → (p : Position) × (SaysPosition s p × ((q : Position) → SaysPosition s q → q ≡ p))
says_one s r = (position_of s, (position_says s, λ q h. position_said s q r h))
