-- Layouts: for each place of a string, which bytes may stand there.
use Rattle.std.specs.Prelude.{ℕ, zero, suc, ◌+◌, ◌*◌, ◌/◌, ◌%◌, ◌<◌, ◌≡◌, Bool, true, cond, ◌&&◌, ◌||◌, List, [], ◌∷◌, leb, ltb, eqb, length, get_or}
use Prim.Native.Char.{Char, code}
use Rattle.clock_time.specs.Lists.{slice}
use Rattle.decimal.specs.Decimal.{is_digit, value}

-- "Places count from 0." (01, Meinberg and ELV strings): a layout has a number for each of them in turn. Below 256 it
-- is that byte and no other; `digit`, a decimal digit; `free`, any byte, since other rules speak of it; `printable`,
-- a byte from 32 to 126; `flag a`, the letter a or a blank; `either a b`, the letter a, the letter b or a blank. No
-- layout has another number; `allowed` would take one above 258 as a flag.
abbrev pub digit : ℕ
digit = 256

-- the place of any byte
abbrev pub free : ℕ
free = 257

-- "any bytes from 32 to 126 (others give 2)" (02, T-01)
abbrev pub printable : ℕ
printable = 258

-- the place of a flag, by the number of its letter
abbrev pub flag_of : ℕ → ℕ
flag_of a = 512 + a

-- the place of a flag
abbrev pub flag : Char → ℕ
flag a = flag_of (code a)

-- the place of a flag with two letters
abbrev pub either : Char → Char → ℕ
either a b = 65536 + 256 * code a + code b

-- k places of one kind
abbrev pub places : ℕ → ℕ → List ℕ
places zero p = []
places (suc k) p = p ∷ places k p

-- a byte of a sample as a place: `0` stands for a digit, `?` for any byte, another for itself
unfoldable pub sample_place : ℕ → ℕ
sample_place p = cond (eqb p (code "0")) digit (cond (eqb p (code "?")) free p)

-- "t `U`, u `#`, v `*`, x `S`, y `!`, z `A`, a `R`, or blank"; "b must be `L` exactly if the second is 60"; of the
-- standard string "x `U` (offset 0), `S` (offset 120, summer time) or blank (offset 60); y `!` (change coming), `A`
-- (leap second coming) or blank" (01, Meinberg and ELV strings); "rrrrr is any bytes from 32 to 126" (02, T-01): a byte
-- of a pattern as a place. These letters stand for the flags and for a printable byte, in every pattern the same, so
-- that the standard string's x and y are X and Y; another byte is that of a sample
unfoldable pub pattern_place : ℕ → ℕ
pattern_place p =
    cond (eqb p (code "t")) (flag "U")
    (cond (eqb p (code "u")) (flag "#")
    (cond (eqb p (code "v")) (flag "*")
    (cond (eqb p (code "x")) (flag "S")
    (cond (eqb p (code "y")) (flag "!")
    (cond (eqb p (code "z")) (flag "A")
    (cond (eqb p (code "a")) (flag "R")
    (cond (eqb p (code "b")) (flag "L")
    (cond (eqb p (code "X")) (either "U" "S")
    (cond (eqb p (code "Y")) (either "!" "A")
    (cond (eqb p (code "r")) printable (sample_place p)))))))))))

-- the layout that a pattern stands for
abbrev pub patterned : List ℕ → List ℕ
patterned [] = []
patterned (p ∷ ps) = pattern_place p ∷ patterned ps

-- the byte b may stand at the place p
unfoldable pub allowed : ℕ → ℕ → Bool
allowed p b =
    cond (ltb p 256) (eqb b p)
    (cond (eqb p digit) (is_digit b)
    (cond (eqb p free) true
    (cond (eqb p printable) (leb 32 b && leb b 126)
    (cond (ltb p 65536) (eqb b 32 || eqb b (p % 256)) (eqb b 32 || eqb b (p / 256 % 256) || eqb b (p % 256))))))

-- 2: "a fixed byte differs"; 3: "no digit in a digit place"; 4: "a flag place holds another character"
-- (01, Refusal numbers); "any bytes from 32 to 126 (others give 2)" (02, T-01); at a free place no byte offends, so
-- that its 4 is never given
unfoldable pub error_at : ℕ → ℕ
error_at p = cond (ltb p 256 || eqb p printable) 2 (cond (eqb p digit) 3 4)

-- the error number of the byte b at the place p, 0 if it may stand there
unfoldable pub offence : ℕ → ℕ → ℕ
offence p b = cond (allowed p b) 0 (error_at p)

-- a string as long as its layout, with a byte at each place that may stand there
pub record FitsLayout (l s : List ℕ) : Type 0 where
  pub long : length l ≡ length s
  pub at : (i : ℕ) → i < length l → allowed (get_or l i 0) (get_or s i 0) ≡ true

-- the same as a test, which leaves the lengths aside: t holds, and each byte of s from place i on may stand at its
-- place of l, whose first place is i
unfoldable pub fits_from : Bool → ℕ → List ℕ → List ℕ → Bool
fits_from t i [] s = t
fits_from t i (p ∷ l) s = fits_from (t && allowed p (get_or s i 0)) (suc i) l s

-- the first place whose byte offends with the number k, the layout's length if there is none
unfoldable pub first : ℕ → List ℕ → List ℕ → ℕ
first k [] s = 0
first k (p ∷ l) [] = suc (length l)
first k (p ∷ l) (b ∷ s) = cond (eqb (offence p b) k) 0 (suc (first k l s))

-- some byte offends with the number k
abbrev pub found : ℕ → List ℕ → List ℕ → Bool
found k l s = ltb (first k l s) (length l)

-- "Order for text: 1, 2, 3, 4" (01, Refusal numbers): the number of a string that does not fit its layout; 4 if it
-- fits, which no reader asks
unfoldable pub layout_error : List ℕ → List ℕ → ℕ
layout_error l s = cond (eqb (length l) (length s)) (cond (found 2 l s) 2 (cond (found 3 l s) 3 4)) 1

-- the number that k digits from a place on stand for
abbrev pub number : ℕ → ℕ → List ℕ → ℕ
number k at s = value (slice at k s)

-- a letter stands at a place
abbrev pub has : Char → ℕ → List ℕ → Bool
has c at s = eqb (get_or s at 0) (code c)
