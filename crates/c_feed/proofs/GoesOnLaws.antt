-- Calls of the feed go on where the last one stopped.
use Prim.Native.Nat.{ℕ, ◌≤◌}
use native.Mathlib.Omega.{arith}
use mathlib.Core.Path.{◌≡◌, refl, ap}
use mathlib.Core.List.{List, ◌++◌}
use lib.ListN.{length, take, drop, replicate}
use lib.Seq.{length-take-le}
use borrow.Author.Tests.{le-ltb}
use Rattle.framing.specs.Step.{start}
use Rattle.framing.specs.Feed.{feed_of}
use Rattle.c_feed.specs.Feed.{mode_of, framer_in, state_bytes, event_number, FeedMemory, feed_memory, feed_into}
use Rattle.c_feed.proofs.StateLaws.{framer_bytes}
use Rattle.c_feed.proofs.FeedLaws.{feed_whole}

pub zero_state : framer_in (replicate 68 0) ≡ start
unfolding framer_in mode_of
zero_state = refl

state_whole : (state : List ℕ) → 68 ≤ length state → length (framer_in state).bytes ≡ 66
unfolding framer_in
state_whole state room = length-take-le 66 state (omega arith)

feed_room : (state : List ℕ) (taken event : ℕ) (s : List ℕ) (limit : ℕ) → 68 ≤ length state
    → let r = feed_of (framer_in state) (take limit s) in
    (feed_into (feed_memory state taken event) s limit).memory
    ≡ feed_memory (state_bytes r.framer ++ drop 68 state) r.taken (event_number r.event)
unfolding feed_into
feed_room state taken event s limit room = simp (le-ltb _ _ room)

pub feed_goes_on : (state : List ℕ) (taken event : ℕ) (s : List ℕ) (limit : ℕ) → 68 ≤ length state
    → let after = (feed_into (feed_memory state taken event) s limit).memory in
    (framer_in after.state ≡ (feed_of (framer_in state) (take limit s)).framer)
    × (after.taken ≡ (feed_of (framer_in state) (take limit s)).taken)
    × (after.event ≡ event_number (feed_of (framer_in state) (take limit s)).event)
feed_goes_on state taken event s limit room =
    let r = feed_of (framer_in state) (take limit s) in
    rw (feed_room state taken event s limit room) (
      framer_bytes r.framer (drop 68 state) (feed_whole (take limit s) (framer_in state) (state_whole state room)),
      refl,
      refl,
    )

pub feed_bytes : (state : List ℕ) (taken event : ℕ) (s : List ℕ) (limit : ℕ) → 68 ≤ length state
    → let after = (feed_into (feed_memory state taken event) s limit).memory.state in
    after ≡ state_bytes (framer_in after) ++ drop 68 state
feed_bytes state taken event s limit room =
    rw (feed_goes_on state taken event s limit room).0
    (ap (λ (m : FeedMemory). m.state) (feed_room state taken event s limit room))
