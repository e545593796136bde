-- What the event's byte tells C.
use Rattle.std.specs.Prelude.{ℕ, ◌≤◌, ◌≡◌, ◌↔◌}
use Rattle.framing.specs.declared.Event.{Event}
use Rattle.framing.specs.declared.Event.TheVariants.{Nothing, Complete, Dropped}

-- "It answers nothing yet, a complete string of n bytes, or an overlong string dropped." (01, The serial feed): the
-- byte is 0, 1 to 66 or 255, and each of these stands for one event only
pub record EventSays (byte : ℕ) (event : Event) : Type 0 where
  pub nothing : (byte ≡ 0) ↔ (event ≡ Nothing)
  pub string : (n : ℕ) → ((1 ≤ n) × (n ≤ 66) × (byte ≡ n)) ↔ (event ≡ Complete n)
  pub overlong : (byte ≡ 255) ↔ (event ≡ Dropped)
