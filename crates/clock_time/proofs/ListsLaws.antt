-- Laws of a slice.
use Prim.Native.Nat.{ℕ, zero, suc, ◌+◌}
use native.Mathlib.Nat.{zero-add, add-suc, suc-add}
use mathlib.Core.Path.{◌≡◌, refl, sym, ap, ◌∙◌}
use mathlib.Core.List.{List, [], ◌∷◌, ◌++◌}
use lib.ListN.{length, get_or}
use Rattle.clock_time.specs.Lists.{slice}

pub length_slice : (k at : ℕ) (s : List ℕ) → length (slice at k s) ≡ k
length_slice zero at s = refl
length_slice (suc k) at s = ap suc (length_slice k (suc at) s)

-- behind the first number
slice_tail : (k at b : ℕ) (s : List ℕ) → slice (suc at) k (b ∷ s) ≡ slice at k s
slice_tail zero at b s = refl
slice_tail (suc k) at b s = ap (λ (l : List ℕ). get_or s at 0 ∷ l) (slice_tail k (suc at) b s)

pub slice_all : (s : List ℕ) → slice 0 (length s) s ≡ s
slice_all [] = refl
slice_all (b ∷ s) = ap (λ (l : List ℕ). b ∷ l) (slice_tail (length s) 0 b s ∙ slice_all s)

-- a list of a known length, number by number
pub slice_known : (k : ℕ) (s : List ℕ) → length s ≡ k → s ≡ slice 0 k s
slice_known k s h = sym (slice_all s) ∙ rw h

-- a slice and the next one
pub slice_slice : (s : List ℕ) (j k at : ℕ) → slice at j s ++ slice (j + at) k s ≡ slice at (j + k) s
slice_slice s zero k at = rw (zero-add at, zero-add k)
slice_slice s (suc j) k at = rw (suc-add j at, ← (add-suc j at), suc-add j k, slice_slice s j k (suc at))
