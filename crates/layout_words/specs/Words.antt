-- Eight bytes at once: a sample or flags that they fit, and the numbers of three or four pairs of digits.
use Rattle.std.specs.Prelude.{ℕ, zero, suc, ◌+◌, ◌*◌, ◌/◌, ◌%◌, Bool, true, cond, List, [], ◌∷◌, length, ◌==◌, nat_le, slice_index}
use Prim.Native.Char.{code}
use Rattle.layout.specs.Layout.{sample_place, flag_of, fits_from}

-- the number whose digits to the base 256 are these bytes, the lowest first
unfoldable pub word : List ℕ → ℕ
word [] = 0
word (b ∷ s) = word s * 256 + b

-- the string, if it has eight bytes from a place on, else no bytes at all
unfoldable pub enough : ℕ → List ℕ → List ℕ
enough at s = cond (nat_le (at + 8) (length s)) s []

-- the places of a sample's bytes
abbrev pub sample_places : List ℕ → List ℕ
sample_places [] = []
sample_places (p ∷ ps) = sample_place p ∷ sample_places ps

-- the bytes from a place on are as a sample says; if eight are not there, all count as 0
unfoldable pub sample_fits : ℕ → List ℕ → List ℕ → Bool
sample_fits at sample s = fits_from true at (sample_places sample) (enough at s)

-- a number for a byte of a sample: for a digit, for any byte, or for a byte that stands for itself
unfoldable pub by_sample : ℕ → ℕ → ℕ → ℕ → ℕ
by_sample for_digit for_any for_fixed p = cond (p == (code "0")) for_digit (cond (p == (code "?")) for_any for_fixed)

-- such a number for each of a sample's bytes
abbrev pub each_by_sample : ℕ → ℕ → ℕ → List ℕ → List ℕ
each_by_sample for_digit for_any for_fixed [] = []
each_by_sample for_digit for_any for_fixed (p ∷ ps) =
    by_sample for_digit for_any for_fixed p ∷ each_by_sample for_digit for_any for_fixed ps

-- the letters of flags, and the byte after them, as places of a layout
abbrev pub flag_places : List ℕ → ℕ → List ℕ
flag_places [] last = last ∷ []
flag_places (a ∷ letters) last = flag_of a ∷ flag_places letters last

-- each byte from a place on is its letter or a blank, and the byte after these is `last`; if eight are not there, all
-- count as 0
unfoldable pub flags_fit : ℕ → List ℕ → ℕ → List ℕ → Bool
flags_fit at letters last s = fits_from true at (flag_places letters last) (enough at s)

-- of the n lowest bytes of a word, the high bits of those that are not 0
unfoldable pub nonzero_bytes : ℕ → ℕ → ℕ
nonzero_bytes zero w = 0
nonzero_bytes (suc n) w = nonzero_bytes n (w / 256) * 256 + cond (w % 256 == 0) 0 128

-- the number of two bytes by their low halves: the low half of a digit's byte is the digit
unfoldable pub low_pair : ℕ → List ℕ → ℕ
low_pair at s = 10 * (slice_index s at % 16) + slice_index s (suc at) % 16

-- the numbers of seven pairs, each a place after the one before it
abbrev pub seven_pairs : ℕ → List ℕ → List ℕ
seven_pairs at s =
    low_pair at s ∷ low_pair (at + 1) s ∷ low_pair (at + 2) s ∷ low_pair (at + 3) s ∷ low_pair (at + 4) s
    ∷ low_pair (at + 5) s ∷ low_pair (at + 6) s ∷ []

-- the numbers of three pairs of digits, with one byte between two pairs
unfoldable pub three_numbers : ℕ → List ℕ → List ℕ
three_numbers at s = low_pair at s ∷ low_pair (at + 3) s ∷ low_pair (at + 6) s ∷ []

-- the same from a place on, 0 if there are no eight bytes
unfoldable pub numbers_at : ℕ → List ℕ → List ℕ
numbers_at at s = three_numbers at (enough at s)

-- the numbers of four pairs of digits, one after another
unfoldable pub four_numbers : ℕ → List ℕ → List ℕ
four_numbers at s = low_pair at s ∷ low_pair (at + 2) s ∷ low_pair (at + 4) s ∷ low_pair (at + 6) s ∷ []

-- the same from a place on, 0 if there are no eight bytes
unfoldable pub four_numbers_at : ℕ → List ℕ → List ℕ
four_numbers_at at s = four_numbers at (enough at s)
