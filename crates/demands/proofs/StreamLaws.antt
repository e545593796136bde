-- What a call takes of a stream and leaves, from what its definition says.
use Prim.Native.Nat.{ℕ, ◌≤◌}
use mathlib.Core.Path.{◌≡◌, refl, ap}
use mathlib.Core.Bool.{Bool, true, false}
use mathlib.Core.List.{List, [], ◌∷◌, ◌++◌}
use lib.Dec.{ltb}
use lib.ListN.{length, take, drop}
use lib.Seq.{drop-append_seam}
use borrow.Author.Tests.{ltb-false}
use Rattle.clock_time.specs.Errors.{accepted, given, checked}
use Rattle.clock_time.specs.Exit.{Exit, exit, leaves}
use Rattle.clock_time.specs.Called.{called, called_memory}
use Rattle.framing.specs.Feed.{feed_of}
use Rattle.framing.proofs.Theorems as framing
use Rattle.clock_time.proofs.ErrorLaws.{apart}
use Rattle.c_feed.specs.Feed.{FeedMemory, feed_memory, framer_in, state_bytes, event_number, feed_into}
use Rattle.c_feed.proofs.Theorems as states
use Rattle.listing.specs.declared.Listing.{Listing}
use Rattle.listing.specs.Listing.{text_of, taken_of, list_of}
use Rattle.listing.proofs.CallsLaws.{call_text}
use Rattle.listing.proofs.Theorems as listings
use Rattle.demands.specs.Streams.{CallFeeds, Lists}
use Rattle.demands.proofs.OrderLaws.{never_0}
use Rattle.demands.proofs.SheetLaws.{memory_exit}
use Rattle.demands.proofs.Demand1 as demand-1

pub lists : (l : Listing) (s buffer : List ℕ) → Lists l s buffer (list_of l s buffer)
unfolding list_of
lists l s buffer =
    record {
      within = listings.list_takes_within l s buffer;
      state = refl;
      long = refl;
      text = call_text l s buffer;
      rest = drop-append_seam (text_of l (take (taken_of l s (length buffer)) s)) _;
      some = listings.list_takes_some l s buffer;
      all = listings.list_takes_all l s buffer;
    }

-- ---- the feed from C
module _ (state : List ℕ) (taken event : ℕ) (s : List ℕ) (limit : ℕ) where
  feed_room : (a : Unit {0}) (m : FeedMemory) → exit (accepted a) m ≡ feed_into (feed_memory state taken event) s limit
      → 68 ≤ length state
  unfolding feed_into
  feed_room a m h = go (ltb (length state) 68) refl h
    where
      new : FeedMemory
      new =
          let r = feed_of (framer_in state) (take limit s) in
          feed_memory (state_bytes r.framer ++ drop 68 state) r.taken (event_number r.event)

      go : (b : Bool) → ltb (length state) 68 ≡ b
          → exit (accepted a) m ≡ leaves (feed_memory state taken event) new (checked (given 20 b ∷ []) tt)
          → 68 ≤ length state
      go true e h = apart (ap (λ (x : Exit (Unit {0}) FeedMemory). x.answer) h)
      go false e h = ltb-false _ _ e

  pub feeds : (m : FeedMemory) → called 0 m ≡ called_memory (feed_into (feed_memory state taken event) s limit)
      → CallFeeds state s limit m
  feeds m h =
      let old = feed_memory state taken event in
      let zero = never_0 _ (20 ∷ []) refl _ (demand-1.feed old s limit).ordered in
      let e = memory_exit (feed_into old s limit) m zero h in
      let room = feed_room e.0 m e.1 in
      let on = states.feed_goes_on state taken event s limit room in
      rw (ap (λ (x : Exit (Unit {0}) FeedMemory). x.memory) e.1) (record {
        ended = (feed_of (framer_in state) (take limit s)).event;
        steps = rw (on.0, on.1) (framing.feed_by_steps (framer_in state) s limit);
        event = states.event_says state taken event s limit room;
        bytes = states.feed_bytes state taken event s limit room;
      })
