-- Numbers and parity in marks, over a first place and a count.
use Rattle.std.specs.Prelude.{ℕ, zero, suc, ◌+◌, ◌*◌, ◌/◌, ◌%◌, Bool, true, not, ◌&&◌, List, [], ◌∷◌, leb, ltb, eqb, length, get_or}

-- "Mark 0 short (100 ms), 1 long (200 ms)" (01, DCF77 marks)
abbrev pub long : ℕ → List ℕ → Bool
long at m = eqb (get_or m at 0) 1

-- the mark at a place is short
abbrev pub short : ℕ → List ℕ → Bool
short at m = eqb (get_or m at 0) 0

-- every mark is short or long: "2 gap, 3 and any larger byte on a tape unsure" (01, DCF77 marks)
unfoldable pub all_sure : List ℕ → Bool
all_sure [] = true
all_sure (b ∷ m) = ltb b 2 && all_sure m

-- "Mark 0 short (100 ms), 1 long (200 ms)" (01, DCF77 marks): k marks from a place on are one or the other
unfoldable pub sure_from : ℕ → ℕ → List ℕ → Bool
sure_from zero at m = true
sure_from (suc k) at m = ltb (get_or m at 0) 2 && sure_from k (suc at) m

-- "Mark 0 short (100 ms), 1 long (200 ms)" (01, DCF77 marks): eight marks from a place on are there, and are one or the
-- other
unfoldable pub eight_sure : ℕ → List ℕ → Bool
eight_sure at m = leb (at + 8) (length m) && sure_from 8 at m

-- "Lowest bit first" (01, DCF77 marks): the number that k marks from a place on stand for
unfoldable pub binary : ℕ → ℕ → List ℕ → ℕ
binary zero at m = 0
binary (suc k) at m = get_or m at 0 + 2 * binary k (suc at) m

-- "minute 21..24 and tens 25..27" (01, DCF77 marks), and so of the other fields: a digit of four marks, then the tens
unfoldable pub two_digits : ℕ → ℕ → List ℕ → ℕ
two_digits at tens m = binary 4 at m + 10 * binary tens (4 + at) m

-- the sum of k marks from a place on: how many are long, if all are short or long
unfoldable pub longs : ℕ → ℕ → List ℕ → ℕ
longs zero at m = 0
longs (suc k) at m = get_or m at 0 + longs k (suc at) m

-- "Parity is even over 21..28, 29..35 and 36..58." (01, DCF77 marks)
unfoldable pub is_odd : ℕ → ℕ → List ℕ → Bool
is_odd k at m = not (eqb (longs k at m % 2) 0)

-- "Lowest bit first" (01, DCF77 marks): the marks that stand for the last k bits of n
unfoldable pub bits : ℕ → ℕ → List ℕ
bits zero n = []
bits (suc k) n = n % 2 ∷ bits k (n / 2)
