-- Laws of the places 24 to 31: two digits, any byte and five printable bytes, tested as one word.
use Rattle.std.proofs.Common.{◌≡◌, ℕ, ◌+◌, ◌*◌, ◌^◌, ◌<◌, Bool, true, false, ◌&&◌, T, List, [], ◌∷◌, map, sym, refl, ap, ◌∙◌, ap₂}
use mathlib.Core.Bool.{beq}
use lib.Bits.{bit_xor, xor_zero_r}
use Rattle.clock_time.specs.Lists.{slice}
use Rattle.clock_time.proofs.Tests.{below}
use Rattle.decimal.specs.Decimal.{is_digit}
use Rattle.layout.specs.Layout.{digit, free, printable, places, allowed, fits_from}
use Rattle.layout_words.specs.Words.{word}
use Rattle.layout_words.proofs.WordLaws.{Bytes}
use Rattle.layout_words.proofs.ByteLaws.{clear, same_test}
use Rattle.layout_words.proofs.TestLaws.{ByteTest, computed, passes, passes_all, passes_all_lem, word_fits}

-- ---- what may stand at a place
-- two tests of a byte that are together the layout's own
record TwoTests : Type 0 where
  place : ℕ
  low : ByteTest
  top : ByteTest
  both : T (below 256 (λ b. beq (passes low b && passes top b) (allowed place b)))

-- any byte passes
abbrev any : ByteTest
any = computed 0 0 0 tt tt tt

free_place : TwoTests
unfolding allowed
free_place = record { place = free; low = any; top = any; both = tt }

-- a digit, and a byte below 128
digit_place : TwoTests
unfolding allowed is_digit
digit_place =
    record { place = digit; low = computed 48 118 128 tt tt tt; top = computed 0 0 128 tt tt tt; both = tt }

-- a byte from 32 to 127, and one up to 126
printable_place : TwoTests
unfolding allowed
printable_place =
    record { place = printable; low = computed 127 32 128 tt tt tt; top = computed 0 1 128 tt tt tt; both = tt }

-- the places 24 to 31
abbrev tail : List TwoTests
tail =
    digit_place ∷ digit_place ∷ free_place ∷ printable_place ∷ printable_place ∷ printable_place ∷ printable_place
    ∷ printable_place ∷ []

-- ---- a word of such places
-- each of its bytes passes both tests
abbrev lows : List TwoTests → List ByteTest
lows ps = map (λ p. p.low) ps

abbrev tops : List TwoTests → List ByteTest
tops ps = map (λ p. p.top) ps

abbrev passes_both : List TwoTests → ℕ → Bool
passes_both ps w = passes_all (lows ps) w && passes_all (tops ps) w

-- of two pairs, in another order
and_exchange : (a x b y : Bool) → ((a && x) && (b && y)) ≡ ((a && b) && (x && y))
and_exchange true true b y = refl
and_exchange true false true y = refl
and_exchange true false false y = refl
and_exchange false x b y = refl

-- they do exactly if the lowest may stand at its place, and the others pass
passes_both_lem : (p : TwoTests) (ps : List TwoTests) (w b : ℕ) → b < 256
    → passes_both (p ∷ ps) (w * 256 + b) ≡ (allowed p.place b && passes_both ps w)
passes_both_lem p ps w b h =
    ap₂ ◌&&◌ (passes_all_lem p.low (lows ps) w b h) (passes_all_lem p.top (tops ps) w b h)
    ∙ and_exchange (passes p.low b) (passes_all (lows ps) w) (passes p.top b) (passes_all (tops ps) w)
    ∙ ap (λ (t : Bool). t && passes_both ps w)
    (same_test (λ b. passes p.low b && passes p.top b) (allowed p.place) p.both b h)

-- the code's test of the word is the layout's of its places
pub tail_test : (s : List ℕ) → Bytes s → let w = word (slice 24 8 s) in
    (clear (2 ^ 64) 2314885530816378486 9259542123265425536 (bit_xor w 9187201950427394096)
    && clear (2 ^ 64) 72340172838010880 9259542123265425536 w)
    ≡ fits_from true 24 (digit ∷ digit ∷ free ∷ places 5 printable) s
unfolding word free_place digit_place printable_place
tail_test s hs =
    let w = word (slice 24 8 s) in
    ap (λ (x : ℕ). passes_all (lows tail) w && clear (2 ^ 64) 72340172838010880 9259542123265425536 x)
    (sym (xor_zero_r w))
    ∙ word_fits (λ p. p.place) passes_both refl passes_both_lem tail s 24 hs
