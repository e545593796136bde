-- What the private functions promise to the listing.
use Rattle.std.specs.Prelude.{◌≡◌, ℕ, ◌+◌, ◌-◌, ◌<◌, ◌≤◌, List, length, take, drop}
use Rattle.listing.specs.Listing.{after, text_of, taken_of}
use Rattle.listing.specs.declared.Listing.{Listing}
use Rattle.listing.specs.declared.LineResult.{LineResult}

-- of s some bytes are taken if there are any; the line is their text, the state that after them, and if there is
-- room for any line the listing takes them and goes on from there
pub record ListsNext (l : Listing) (s : List ℕ) (r : LineResult) : Type 0 where
  pub within : r.taken ≤ length s
  pub some : 0 < length s → 0 < r.taken
  pub short : length r.line.items ≤ 35
  pub text : r.line.items ≡ text_of l (take r.taken s)
  pub state : r.listing ≡ after l (take r.taken s)
  pub goes : (room : ℕ) → 35 ≤ room
      → taken_of l s room ≡ r.taken + taken_of r.listing (drop r.taken s) (room - length r.line.items)
