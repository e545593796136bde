-- What a string is, of which the theorems speak.
use Rattle.std.specs.Prelude.{ℕ, ◌+◌, ◌≤◌, ◌≡◌, Bool, true, not, ◌&&◌, ◌||◌, List, [], ◌∷◌, ◌++◌, eqb, length, take}
use Rattle.framing.specs.declared.Framer.{Framer}
use Rattle.framing.specs.declared.Mode.TheVariants.{Inside}
use Rattle.framing.specs.declared.Event.TheVariants.{Complete, Dropped}
use Rattle.framing.specs.declared.FeedResult.{FeedResult}

-- no byte is STX or ETX
unfoldable pub all_plain : List ℕ → Bool
all_plain [] = true
all_plain (b ∷ s) = not (eqb b 2 || eqb b 3) && all_plain s

-- the bytes taken so far end in STX and a body that has neither STX nor ETX, and these are kept
pub record Open (input : List ℕ) (f : Framer) : Type 0 where
  pub before : List ℕ
  pub body : List ℕ
  pub ends : input ≡ before ++ (2 ∷ body)
  pub kept : take f.count f.bytes ≡ 2 ∷ body
  pub plain : all_plain body ≡ true

-- what holds of the state after the bytes taken so far
pub record Reached (input : List ℕ) (f : Framer) : Type 0 where
  pub size : length f.bytes ≡ 66
  pub few : f.count ≤ 66
  pub inside : f.mode ≡ Inside → Open input f

-- "a complete string of n bytes [..] n counts STX and ETX; the state's first n bytes are then the string" (01, The
-- serial feed): the bytes taken so far end in that string
pub record Framed (input : List ℕ) (f : Framer) (n : ℕ) : Type 0 where
  pub before : List ℕ
  pub body : List ℕ
  pub ends : input ≡ before ++ (2 ∷ body ++ 3 ∷ [])
  pub string : take n f.bytes ≡ 2 ∷ body ++ 3 ∷ []
  pub plain : all_plain body ≡ true
  pub counted : n ≡ length body + 2
  pub few : n ≤ 66

-- a feed's event is this string, complete, and its bytes are those taken
pub record Finds (string : List ℕ) (r : FeedResult) : Type 0 where
  pub event : r.event ≡ Complete (length string)
  pub taken : r.taken ≡ length string
  pub kept : take (length string) r.framer.bytes ≡ string

-- a feed's event is that a string of n bytes, those taken, was dropped
pub record Drops (n : ℕ) (r : FeedResult) : Type 0 where
  pub event : r.event ≡ Dropped
  pub taken : r.taken ≡ n
