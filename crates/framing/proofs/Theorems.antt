-- The main results of the serial feed.
use Prim.Native.Nat.{ℕ, ◌+◌, ◌≤◌, ◌<◌}
use mathlib.Core.Path.{◌≡◌, refl}
use mathlib.Core.Bool.{true, false}
use mathlib.Core.List.{List, [], ◌∷◌, ◌++◌}
use lib.ListN.{length, take, set}
use Rattle.framing.specs.declared.Mode.TheVariants.{Inside}
use Rattle.framing.specs.declared.Framer.{Framer}
use Rattle.framing.specs.declared.Event.TheVariants.{Nothing, Complete}
use Rattle.framing.specs.Step.{framer_of, start, step_of}
use Rattle.framing.specs.Feed.{is_nothing, after_taking, feed_of}
use Rattle.framing.specs.Steps.{steps, BySteps, Alike}
use Rattle.framing.specs.Framed.{all_plain, Reached, Framed, Finds, Drops}
use Rattle.framing.proofs.StepLaws as step
use Rattle.framing.proofs.StepsLaws as feed
use Rattle.framing.proofs.PartsLaws.{feed_append, feed_append_stop}
use Rattle.framing.proofs.FramedLaws.{reached_start, reached_steps, reached_feed, framed_feed}
use Rattle.framing.proofs.AlikeLaws.{alike_stx}
use Rattle.framing.proofs.FoundLaws as found

-- the bytes taken are single steps, of which only the last can end a string, and the feed stops nowhere else than at
-- the limit, at the slice's end, or just after a string
pub feed_by_steps : (f : Framer) (s : List ℕ) (limit : ℕ) → BySteps f s limit (feed_of f (take limit s))
feed_by_steps = feed.by_steps

-- how reads cut the input does not matter: a part that ends no string, and then the rest, are fed like the whole
pub feed_parts : (f : Framer) (s t : List ℕ) → (feed_of f s).event ≡ Nothing
    → feed_of f (s ++ t) ≡ after_taking (length s) (feed_of (feed_of f s).framer t)
feed_parts = feed_append

-- nor does what stands after the first string
pub feed_stopped : (f : Framer) (s t : List ℕ) → is_nothing (feed_of f s).event ≡ false
    → feed_of f (s ++ t) ≡ feed_of f s
feed_stopped = feed_append_stop

-- STX restarts from any state
pub stx_restarts : (f : Framer)
    → step_of f 2 ≡ record { framer = framer_of (set f.bytes 0 2) 1 Inside; event = Nothing }
unfolding step_of
stx_restarts f = refl

-- whatever came before: from STX on, any two states are fed alike
pub stx_forgets : (f g : Framer) (s : List ℕ) → length f.bytes ≡ 66 → length g.bytes ≡ 66
    → Alike (feed_of f (2 ∷ s)) (feed_of g (2 ∷ s))
stx_forgets = alike_stx

-- after any single steps from the start at most 66 bytes are kept; inside, they are STX and what came after it
pub run_reached : (s : List ℕ) → Reached s (steps start s)
run_reached s = reached_steps [] s start reached_start

-- so it is after any feeds
pub feed_reached : (p s : List ℕ) (limit : ℕ) (f : Framer) → Reached p f
    → Reached (p ++ take (feed_of f (take limit s)).taken s) (feed_of f (take limit s)).framer
feed_reached = reached_feed

-- then, at a complete string of n bytes, the state's first n bytes are that string: STX, bytes that are neither STX nor
-- ETX, and ETX, the last n bytes taken
pub complete_string : (p s : List ℕ) (limit : ℕ) (f : Framer) → Reached p f → (n : ℕ)
    → (feed_of f (take limit s)).event ≡ Complete n
    → Framed (p ++ take (feed_of f (take limit s)).taken s) (feed_of f (take limit s)).framer n
complete_string = framed_feed

-- a complete string has 1 to 66 bytes, from any state, also one that no run of the feed gives
pub step_complete : (f : Framer) (b n : ℕ) → (step_of f b).event ≡ Complete n → (1 ≤ n) × (n ≤ 66)
step_complete = step.step_complete

-- in a feed too
pub feed_complete : (f : Framer) (s : List ℕ) (n : ℕ) → (feed_of f s).event ≡ Complete n → (1 ≤ n) × (n ≤ 66)
feed_complete = feed.feed_complete

module _ (f : Framer) (body rest : List ℕ) (size : length f.bytes ≡ 66) (plain : all_plain body ≡ true) where
  -- every string of up to 66 bytes is found, from any state
  pub string_found : length body + 2 ≤ 66 → Finds (2 ∷ body ++ 3 ∷ []) (feed_of f (2 ∷ body ++ 3 ∷ rest))
  string_found = found.string_found f body rest size plain

  -- and every longer one dropped
  pub overlong_dropped : 66 < length body + 2 → Drops (length body + 2) (feed_of f (2 ∷ body ++ 3 ∷ rest))
  overlong_dropped = found.overlong_dropped f body rest size plain
