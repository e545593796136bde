-- The listing of a stream of bytes, byte by byte, so that it does not depend on how the stream is cut.
use Rattle.std.specs.Prelude.{ℕ, suc, ◌-◌, cond, List, [], ◌∷◌, ◌++◌, length, take, drop, nat_lt}
use Rattle.clock_time.specs.Lists.{ascii}
use Rattle.framing.specs.Step as feed
use Rattle.framing.specs.Step.{step_of}
use Rattle.listing_lines.specs.Totals.{totals_line}
use Rattle.listing.specs.Items.{Item, item_of, item_line, counted}
use Rattle.listing.specs.declared.Listing.{Listing}
use Rattle.listing.specs.declared.Listed.{Listed}

-- before the first byte
abbrev pub start : Listing
start = record { framer = feed.start; totals = record { frames = 0; refused = 0; dropped = 0 } }

-- what the byte b brings
abbrev pub item_at : Listing → ℕ → Item
item_at l b = item_of (step_of l.framer b).framer.bytes (step_of l.framer b).event

-- the state after the byte b
abbrev pub step_listing : Listing → ℕ → Listing
step_listing l b = record { framer = (step_of l.framer b).framer; totals = counted l.totals (item_at l b) }

-- the state after some bytes
unfoldable pub after : Listing → List ℕ → Listing
after l [] = l
after l (b ∷ s) = after (step_listing l b) s

-- "A small program that lists what it finds on standard input." (01, What the first build covers): the text of some
-- bytes, a line for each string, complete or dropped
unfoldable pub text_of : Listing → List ℕ → List ℕ
text_of l [] = []
text_of l (b ∷ s) = item_line (item_at l b) ++ text_of (step_listing l b) s

-- how many bytes are taken if the text has so much room: as long as there is room for any line
unfoldable pub taken_of : Listing → List ℕ → ℕ → ℕ
taken_of l [] room = 0
taken_of l (b ∷ s) room =
    cond (nat_lt room 35) 0 (suc (taken_of (step_listing l b) s (room - length (item_line (item_at l b)))))

-- the state after the bytes taken, and the buffer: its first `length` bytes are their text
pub record ListedInto : Type 0 where
  pub listing : Listing
  pub taken : ℕ
  pub length : ℕ
  pub buffer : List ℕ

-- the result of a call and the buffer at exit, as one value
abbrev pub listed_into : Listed → List ℕ → ListedInto
listed_into r buffer = record { listing = r.listing; taken = r.taken; length = r.length; buffer = buffer }

-- n bytes of s are taken, their text stands at the front of the buffer, and nothing after it changes
abbrev pub taking : Listing → List ℕ → List ℕ → ℕ → ListedInto
taking l s buffer n =
    record {
      listing = after l (take n s);
      taken = n;
      length = length (text_of l (take n s));
      buffer = text_of l (take n s) ++ drop (length (text_of l (take n s))) buffer;
    }

-- what a call on the bytes s and a buffer comes to
unfoldable pub list_of : Listing → List ℕ → List ℕ → ListedInto
list_of l s buffer = taking l s buffer (taken_of l s (length buffer))

-- "The program, fed [..] writes, each line ended by LF: [..] time zone flags" (01, Examples (P: proved)), a line for
-- each string, and the totals
unfoldable pub listing_of : List ℕ → List ℕ
listing_of s = ascii "time zone flags\n" ++ text_of start s ++ totals_line (after start s).totals
