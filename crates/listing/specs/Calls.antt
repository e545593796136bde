-- Calls of `list` one after another, of which the theorems speak.
use Rattle.std.specs.Prelude.{ℕ, List, [], ◌++◌, take}
use Rattle.listing.specs.declared.Listing.{Listing}
use Rattle.listing.specs.Listing.{ListedInto, list_of}

-- the bytes that a call takes of s
abbrev pub bytes_taken : List ℕ → ListedInto → List ℕ
bytes_taken s r = take r.taken s

-- the text that a call put to the front of its buffer
abbrev pub text : ListedInto → List ℕ
text r = take r.length r.buffer

-- from the state l, calls on any slices and with any buffers take the bytes `input`, put the bytes `shown` to the
-- fronts of their buffers, and leave the state `end`
pub data Calls : Listing → List ℕ → List ℕ → Listing → Type 0 where
  none : {l : Listing} → Calls l [] [] l
  call : {l : Listing} (s buffer : List ℕ) {input shown : List ℕ} {end : Listing}
      → Calls (list_of l s buffer).listing input shown end
      → Calls l (bytes_taken s (list_of l s buffer) ++ input) (text (list_of l s buffer) ++ shown) end
