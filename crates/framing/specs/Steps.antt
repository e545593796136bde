-- Single steps one after another.
use Rattle.std.specs.Prelude.{ℕ, ◌+◌, ◌≤◌, ◌<◌, min, ◌≡◌, List, [], ◌∷◌, length, get_or, take}
use Rattle.framing.specs.declared.Framer.{Framer}
use Rattle.framing.specs.declared.Event.{Event}
use Rattle.framing.specs.declared.Event.TheVariants.{Nothing}
use Rattle.framing.specs.declared.FeedResult.{FeedResult}
use Rattle.framing.specs.Step.{step_of}

-- the state after a single step for each byte of a list
unfoldable pub steps : Framer → List ℕ → Framer
steps f [] = f
steps f (b ∷ s) = steps (step_of f b).framer s

-- the event of the single step at the place i of a list
unfoldable pub event_at : Framer → List ℕ → ℕ → Event
event_at f s i = (step_of (steps f (take i s)) (get_or s i 0)).event

-- "Over a lent slice the feed stops after an allowance of bytes that the caller names, at the slice's end, or just
-- after the first string, complete or dropped. It returns the number of bytes taken, which is the number of single
-- steps." (01, The serial feed)
pub record BySteps (f : Framer) (s : List ℕ) (limit : ℕ) (r : FeedResult) : Type 0 where
  pub within : r.taken ≤ min limit (length s)
  pub state : r.framer ≡ steps f (take r.taken s)
  pub quiet : (i : ℕ) → i + 1 < r.taken → event_at f s i ≡ Nothing
  pub last : (i : ℕ) → i + 1 ≡ r.taken → event_at f s i ≡ r.event
  pub none : r.taken ≡ 0 → r.event ≡ Nothing
  pub whole : r.event ≡ Nothing → r.taken ≡ min limit (length s)

-- two feeds that differ at most in bytes after the kept ones
pub record Alike (q r : FeedResult) : Type 0 where
  pub event : q.event ≡ r.event
  pub taken : q.taken ≡ r.taken
  pub count : q.framer.count ≡ r.framer.count
  pub mode : q.framer.mode ≡ r.framer.mode
  pub kept : take q.framer.count q.framer.bytes ≡ take r.framer.count r.framer.bytes
