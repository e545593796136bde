-- Lists of numbers: their sum, a slice of them, and the bytes of a quoted text.
use Rattle.std.specs.Prelude.{ℕ, zero, suc, ◌+◌, List, [], ◌∷◌, get_or}
use Prim.Native.String as strings
use Prim.Native.String.{String}
use Prim.Native.Char.{code}

-- the numbers of a list, added up
abbrev pub sum : List ℕ → ℕ
sum [] = 0
sum (n ∷ ns) = n + sum ns

-- the k numbers of s from a place on
abbrev pub slice : ℕ → ℕ → List ℕ → List ℕ
slice at zero s = []
slice at (suc k) s = get_or s at 0 ∷ slice (suc at) k s

-- a text's bytes, one for each character
unfoldable pub ascii : String → List ℕ
ascii strings.[] = []
ascii (strings.◌∷◌ c s) = code c ∷ ascii s
