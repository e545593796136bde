-- The check sum of a Trimble string.
use Rattle.std.specs.Prelude.{ℕ, zero, suc, ◌+◌, ◌-◌, ◌/◌, ◌%◌, Bool, cond, ◌&&◌, List, [], ◌∷◌, ◌==◌, bit_xor, nat_lt, slice_index}
use Prim.Native.Char.{code}
use Rattle.clock_time.specs.Lists.{slice}

-- the exclusive or of numbers
unfoldable pub xor_of : List ℕ → ℕ
xor_of [] = 0
xor_of (b ∷ s) = bit_xor b (xor_of s)

-- the exclusive or of the n lowest bytes of a word
unfoldable pub bytes_xor : ℕ → ℕ → ℕ
bytes_xor zero w = 0
bytes_xor (suc n) w = bit_xor (w % 256) (bytes_xor n (w / 256))

-- "the exclusive or of places 0 to 33" (02, T-01)
unfoldable pub trimble_sum : List ℕ → ℕ
trimble_sum s = xor_of (slice 0 34 s)

-- the capital hex digit of a number's lowest four bits
unfoldable pub hex_digit : ℕ → ℕ
hex_digit n = cond (nat_lt (n % 16) 10) (code "0" + n % 16) (code "A" + (n % 16 - 10))

-- "xx is two capital hex digits of the exclusive or of places 0 to 33." (02, T-01); "xx 34"
unfoldable pub sum_holds : List ℕ → Bool
sum_holds s =
    (slice_index s 34 == hex_digit (trimble_sum s / 16)) && slice_index s 35 == hex_digit (trimble_sum s)
