-- How far the program's listing has come, and what it has to write. What is read and written is outside the logic.
use Rattle.std.specs.Prelude.{ℕ, ◌≤◌, ◌<◌, ◌≡◌, List, length, take, Result, IsOk, IfOk}
use Rattle.std.specs.declared.io.Error.{Error}
use Rattle.listing.specs.Listing.{after}
use Rattle.listing.specs.declared.Listing.{Listing}

-- a buffer has n bytes, of which n are the first n
abbrev pub IsPrefixLen : ℕ → List ℕ → Type 0
IsPrefixLen n buffer = (n ≤ length buffer) × (n ≡ length (take n buffer))

-- of the bytes s some are taken if there are any, and the listing is the one after them; an Ok says how many they are
pub record Takes (l : Listing) (s : List ℕ) (end : Listing) (r : Result ℕ Error) : Type 0 where
  pub taken : ℕ
  pub within : taken ≤ length s
  pub some : 0 < length s → 0 < taken
  pub state : end ≡ after l (take taken s)
  pub told : IfOk r (λ n. n ≡ taken)

-- "A small program that lists what it finds on standard input." (01, What the first build covers): as long as no write
-- fails the listing is the one after all of the bytes s, and else after some first part of them
pub record ListsAll (l : Listing) (s : List ℕ) (end : Listing) (r : Result (Unit {0}) Error) : Type 0 where
  pub whole : IsOk r → end ≡ after l s
  pub part : (n : ℕ) × (end ≡ after l (take n s))

-- the listing is the one after some bytes
abbrev pub Reaches : Listing → Listing → Type 0
Reaches l end = (bytes : List ℕ) × (end ≡ after l bytes)
