-- The feed and the listing in words: what a call takes of a stream, and what it leaves.
use Rattle.std.specs.Prelude.{ℕ, ◌+◌, ◌≤◌, ◌<◌, ◌≡◌, List, ◌++◌, length, take, drop}
use Rattle.framing.specs.declared.Event.{Event}
use Rattle.framing.specs.declared.Event.TheVariants.{Complete}
use Rattle.framing.specs.Steps.{BySteps}
use Rattle.c_feed.specs.Feed.{FeedMemory, framer_in, state_bytes}
use Rattle.c_feed.specs.Event.{EventSays}
use Rattle.listing.specs.declared.Listing.{Listing}
use Rattle.listing.specs.Listing.{ListedInto, after, text_of}

-- "a complete string of n bytes" (01, The serial feed) has 1 to 66 of them
abbrev pub FewBytes : Event → Type 0
FewBytes event = (n : ℕ) → event ≡ Complete n → (1 ≤ n) × (n ≤ 66)

-- a call of the feed from C with a state of 68 bytes: the state that it leaves, the number of bytes taken and the event
-- are those of as many single steps; all 68 bytes are those of that state, and bytes after the 68th stay
pub record CallFeeds (state s : List ℕ) (limit : ℕ) (left : FeedMemory) : Type 0 where
  pub ended : Event
  pub steps :
      BySteps (framer_in state) s limit (record { framer = framer_in left.state; event = ended; taken = left.taken })
  pub event : EventSays left.event ended
  pub bytes : left.state ≡ state_bytes (framer_in left.state) ++ drop 68 state

-- a call of the listing: the text of the bytes taken is at the front of the buffer, and nothing after it changes; it
-- takes something if there is something and room for any line, 35 bytes, and all if a line more than the text would fit
pub record Lists (l : Listing) (s buffer : List ℕ) (left : ListedInto) : Type 0 where
  pub within : left.taken ≤ length s
  pub state : left.listing ≡ after l (take left.taken s)
  pub long : left.length ≡ length (text_of l (take left.taken s))
  pub text : take left.length left.buffer ≡ text_of l (take left.taken s)
  pub rest : drop left.length left.buffer ≡ drop left.length buffer
  pub some : 35 ≤ length buffer → 0 < length s → 0 < left.taken
  pub all : length (text_of l s) + 35 ≤ length buffer → left.taken ≡ length s
