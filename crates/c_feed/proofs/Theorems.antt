-- The main results of the feed over a state of bytes: nothing is lost between calls.
use Prim.Native.Nat.{ℕ, ◌≤◌}
use mathlib.Core.Path.{◌≡◌}
use mathlib.Core.List.{List, ◌++◌}
use lib.ListN.{length, take, drop, replicate}
use Rattle.framing.specs.declared.Framer.{Framer}
use Rattle.framing.specs.Step.{start}
use Rattle.framing.specs.Feed.{feed_of}
use Rattle.c_feed.specs.Feed.{framer_in, state_bytes, event_number, feed_memory, feed_into}
use Rattle.framing.proofs.Theorems.{feed_complete}
use Rattle.c_feed.specs.Event.{EventSays}
use Rattle.c_feed.proofs.StateLaws as state
use Rattle.c_feed.proofs.EventLaws.{number_says}
use Rattle.c_feed.proofs.GoesOnLaws as goes

-- 68 zero bytes are the state before the first byte
pub zero_state : framer_in (replicate 68 0) ≡ start
zero_state = goes.zero_state

-- the bytes of a state are that state again
pub state_bytes_lem : (f : Framer) (rest : List ℕ) → length f.bytes ≡ 66 → framer_in (state_bytes f ++ rest) ≡ f
state_bytes_lem = state.framer_bytes

-- "The feed's state goes in and is handed back" (01, The serial feed): what a call leaves stands for the state after
-- the bytes taken, which are those of the feed, so that calls in a row are feeds in a row
pub feed_goes_on : (state : List ℕ) (taken event : ℕ) (s : List ℕ) (limit : ℕ) → 68 ≤ length state
    → let after = (feed_into (feed_memory state taken event) s limit).memory in
    (framer_in after.state ≡ (feed_of (framer_in state) (take limit s)).framer)
    × (after.taken ≡ (feed_of (framer_in state) (take limit s)).taken)
    × (after.event ≡ event_number (feed_of (framer_in state) (take limit s)).event)
feed_goes_on = goes.feed_goes_on

-- and the bytes that it leaves are those of that state, with what was lent after the 68th
pub feed_bytes : (state : List ℕ) (taken event : ℕ) (s : List ℕ) (limit : ℕ) → 68 ≤ length state
    → let after = (feed_into (feed_memory state taken event) s limit).memory.state in
    after ≡ state_bytes (framer_in after) ++ drop 68 state
feed_bytes = goes.feed_bytes

-- what the call leaves behind `event` tells C, from any state, what the last byte taken ended: 0 nothing, 1 to 66 a
-- complete string of so many bytes, 255 an overlong one
pub event_says : (state : List ℕ) (taken event : ℕ) (s : List ℕ) (limit : ℕ) → 68 ≤ length state
    → EventSays (feed_into (feed_memory state taken event) s limit).memory.event
    (feed_of (framer_in state) (take limit s)).event
event_says state taken event s limit room =
    rw (feed_goes_on state taken event s limit room).2
    (number_says _ (feed_complete (framer_in state) (take limit s)))
