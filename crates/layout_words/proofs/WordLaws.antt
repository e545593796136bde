-- Words of eight bytes: when they are bytes, and where they stand in a string.
use Rattle.std.proofs.Common.{◌≡◌, ℕ, zero, suc, ◌+◌, ◌<◌, ◌≤◌, Bool, true, false, cond, leb, List, [], ◌∷◌, length, take, drop, get_or, refl, arith, le-leb}
use borrow.Author.Tests.{lt-leb}
use lib.Seq.{drop-cons}
use Rattle.clock_time.specs.Lists.{slice}
use Rattle.layout_words.specs.Words.{enough}

-- each number is a byte
abbrev pub Bytes : List ℕ → Type 0
Bytes s = (i : ℕ) → get_or s i 0 < 256

abbrev pub EachByte : List ℕ → Type 0
EachByte [] = Unit {0}
EachByte (b ∷ s) = (b < 256) × EachByte s

pub bytes_of : (s : List ℕ) → EachByte s → Bytes s
bytes_of [] h i = omega arith
bytes_of (b ∷ s) h zero = h.0
bytes_of (b ∷ s) h (suc i) = bytes_of s h.1 i

pub each_byte : (k at : ℕ) (s : List ℕ) → Bytes s → EachByte (slice at k s)
each_byte zero at s h = tt
each_byte (suc k) at s h = (h at, each_byte k (suc at) s h)

-- ---- the bytes of a string
pub bytes_enough : (at : ℕ) (s : List ℕ) → Bytes s → Bytes (enough at s)
unfolding enough
bytes_enough at s h = go (leb (at + 8) (length s))
  where
    go : (t : Bool) → Bytes (cond t s [])
    go true = h
    go false = bytes_of [] tt

pub enough_bytes : (at : ℕ) (s : List ℕ) → at + 8 ≤ length s → enough at s ≡ s
unfolding enough
enough_bytes at s h = rw (le-leb (at + 8) (length s) h)

pub no_bytes : (at : ℕ) (s : List ℕ) → length s < at + 8 → enough at s ≡ []
unfolding enough
no_bytes at s h = rw (lt-leb (at + 8) (length s) h)

pub slice_taken : (k at : ℕ) (s : List ℕ) → at + k ≤ length s → take k (drop at s) ≡ slice at k s
slice_taken zero at s h = refl
slice_taken (suc k) at s h = rw (drop-cons s at 0 (omega arith), slice_taken k (suc at) s (omega arith))
