-- What the private functions promise to the feed.
use Rattle.std.specs.Prelude.{ℕ, ◌-◌, ◌≤◌, ◌≡◌, false, ◌||◌, List, eqb, length}
use Rattle.std.specs.List.{position_or_len}
use Rattle.framing.specs.declared.Framer.{Framer}
use Rattle.framing.specs.declared.Event.TheVariants.{Nothing}
use Rattle.framing.specs.Step.{step_of}
use Rattle.framing.specs.Feed.{after_taking, feed_of}

-- fed s from the state f, the feed takes bytes with no event, and is then in the state g with t left of s
pub record Taken (f : Framer) (s : List ℕ) (g : Framer) (t : List ℕ) : Type 0 where
  pub within : length t ≤ length s
  pub goes : feed_of f s ≡ after_taking (length s - length t) (feed_of g t)

-- bytes other than STX and `last` leave the state f as it is
abbrev pub Still : Framer → ℕ → Type 0
Still f last = (b : ℕ) → eqb b 2 || eqb b last ≡ false → step_of f b ≡ record { framer = f; event = Nothing }

-- "STX is 2, ETX is 3." (01, Meinberg and ELV strings): how many bytes stand before the first STX or `last`, or all
abbrev pub before : ℕ → List ℕ → ℕ
before last s = position_or_len (λ b. eqb b 2 || eqb b last) s
