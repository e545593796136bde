-- The feed's state as 68 bytes that C lends, and its event as a number.
use Rattle.std.specs.Prelude.{ℕ, cond, List, [], ◌∷◌, ◌++◌, eqb, ltb, length, get_or, take, drop}
use Rattle.clock_time.specs.Errors.{given, checked}
use Rattle.clock_time.specs.Exit.{Exit, leaves}
use Rattle.framing.specs.declared.Event.{Event}
use Rattle.framing.specs.declared.Event.TheVariants.{Nothing, Complete, Dropped}
use Rattle.framing.specs.Step.{framer_of}
use Rattle.framing.specs.Feed.{feed_of}
use Rattle.framing.specs.declared.Framer.{Framer}
use Rattle.framing.specs.declared.Mode.{Mode}
use Rattle.framing.specs.declared.Mode.TheVariants.{Outside, Inside, Overlong}
use Rattle.c_feed.specs.declared.Fed.{Fed}

-- ---- the state
-- outside a string, inside one, or in one that is too long
abbrev pub mode_number : Mode → ℕ
mode_number Outside = 0
mode_number Inside = 1
mode_number Overlong = 2

-- any other number than 1 and 2 is outside
unfoldable pub mode_of : ℕ → Mode
mode_of n = cond (eqb n 1) Inside (cond (eqb n 2) Overlong Outside)

-- bytes 0 to 65 are those kept, 66 is how many, 67 the mode
unfoldable pub framer_in : List ℕ → Framer
framer_in state = framer_of (take 66 state) (get_or state 66 0) (mode_of (get_or state 67 0))

-- the 68 bytes of a state
unfoldable pub state_bytes : Framer → List ℕ
state_bytes f = f.bytes ++ (f.count ∷ mode_number f.mode ∷ [])

-- ---- the event
-- "It answers nothing yet, a complete string of n bytes, or an overlong string dropped." (01, The serial feed)
abbrev pub event_number : Event → ℕ
event_number Nothing = 0
event_number (Complete n) = n
event_number Dropped = 255

-- ---- the call
-- the memory lent: the state, and what stands behind two pointers
pub record FeedMemory : Type 0 where
  pub state : List ℕ
  pub taken : ℕ
  pub event : ℕ

-- a state with what stands behind the pointers
abbrev pub feed_memory : List ℕ → ℕ → ℕ → FeedMemory
feed_memory state taken event = record { state = state; taken = taken; event = event }

-- "Over a lent slice the feed stops after an allowance of bytes that the caller names [..]. It returns the number of
-- bytes taken" (01, The serial feed); 20 if the state has fewer than 68 bytes
unfoldable pub feed_into : FeedMemory → List ℕ → ℕ → Exit (Unit {0}) FeedMemory
feed_into old s limit =
    let r = feed_of (framer_in old.state) (take limit s) in
    leaves old (feed_memory (state_bytes r.framer ++ drop 68 old.state) r.taken (event_number r.event))
    (checked (given 20 (ltb (length old.state) 68) ∷ []) tt)

-- the same without the pointers, as the code has it: how many bytes were taken and the event's number are the answer
unfoldable pub feed_state : List ℕ → List ℕ → ℕ → Exit Fed (List ℕ)
feed_state state s limit =
    let r = feed_of (framer_in state) (take limit s) in
    leaves state (state_bytes r.framer ++ drop 68 state)
    (checked (given 20 (ltb (length state) 68) ∷ []) (record { taken = r.taken; event = event_number r.event }))
