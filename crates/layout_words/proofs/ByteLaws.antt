-- The tests of one byte on its bits, and what they say of it.
use Rattle.std.proofs.Common.{◌≡◌, ℕ, ◌+◌, ◌%◌, ◌<◌, Bool, true, false, cond, ◌||◌, T, eqb, ltb, sym, refl, ap, ◌∙◌, arith, lit<, eqb→eq, ltb→lt, eq-eqb, ne_eqb, eqb-true}
use native.Mathlib.Decide.{ℕ_discrete}
use mathlib.Core.Bool.{beq}
use lib.Bits.{bit_and, bit_or, bit_xor, and_zero_r, and_le_l, and_le_r, xor_add_and, xor_lt, xor_self}
use Rattle.clock_time.proofs.Tests.{below, below_at}
use Rattle.decimal.specs.Decimal.{is_digit}
use Rattle.layout.specs.Layout.{sample_place, allowed}
use Rattle.layout_words.specs.Words.{by_sample}
use Rattle.layout.proofs.LayoutLaws.{fixed_test}

-- two tests that agree on all bytes, by computation
pub same_test : (f g : ℕ → Bool) → T (below 256 (λ n. beq (f n) (g n))) → (n : ℕ) → n < 256 → f n ≡ g n
same_test f g t n h = go (f n) (g n) (below_at 256 (λ n. beq (f n) (g n)) t n h)
  where
    go : (a b : Bool) → T (beq a b) → a ≡ b
    go true true t = refl
    go false false t = refl
    go true false t = absurd t
    go false true t = absurd t

same_xor : (b p : ℕ) → eqb (bit_xor b p) 0 ≡ eqb b p
same_xor b p = elim (ℕ_discrete b p) [
  | yes e ↦ rw (eq-eqb b p e, e) (eq-eqb (bit_xor p p) 0 (xor_self p))
  | no d ↦ let e : bit_xor b p ≡ 0 → ⊥ =
      λ z. d (omega (arith, z, xor_add_and b p, and_le_l b p, and_le_r b p)) in
      ne_eqb (bit_xor b p) 0 e ∙ rw (ne_eqb b p d)
]

-- ---- the byte of a sample
-- what the code adds to a difference from it, and the bits that it looks at
abbrev pub more_of : ℕ → ℕ
more_of p = by_sample 118 0 127 p

abbrev pub high_of : ℕ → ℕ
high_of p = by_sample 128 0 128 p

-- the code's test of a difference, as of a number below a size: no bit of `high` is set, neither in it nor in its sum
-- with `more`
abbrev pub clear : ℕ → ℕ → ℕ → ℕ → Bool
clear size more high x = eqb (bit_and (bit_or x ((x + more) % size)) high) 0

digit_test : (b : ℕ) → b < 256 → clear 256 118 128 (bit_xor b 48) ≡ is_digit b
unfolding is_digit
digit_test = same_test (λ b. clear 256 118 128 (bit_xor b 48)) (λ b. is_digit b) tt

zero_test : (x : ℕ) → x < 256 → clear 256 127 128 x ≡ eqb x 0
zero_test = same_test (clear 256 127 128) (λ x. eqb x 0) tt

-- the byte may stand there exactly if its difference passes
pub sample_test_lem : (p b : ℕ) → p < 256 → b < 256
    → clear 256 (more_of p) (high_of p) (bit_xor b p) ≡ allowed (sample_place p) b
unfolding by_sample sample_place allowed
sample_test_lem p b hp hb = go (eqb p 48) (eqb p 63) refl refl
  where
    go : (t u : Bool) → eqb p 48 ≡ t → eqb p 63 ≡ u
        → clear 256 (more_of p) (high_of p) (bit_xor b p) ≡ allowed (sample_place p) b
    go true u q r = rw (q, eqb-true p 48 q) (digit_test b hb)
    go false true q r = rw (q, r)
        (ap (λ (n : ℕ). eqb n 0) (and_zero_r (bit_or (bit_xor b p) ((bit_xor b p + 0) % 256))))
    go false false q r =
        rw (q, r) (zero_test (bit_xor b p) (xor_lt 8 b p hb hp) ∙ same_xor b p ∙ sym (fixed_test p b hp))

-- what holds of the numbers for a digit, for any byte and for a fixed one
each_rule : (P : ℕ → ℕ → Type 0) → P 118 128 → P 0 0 → P 127 128 → (p : ℕ) → P (more_of p) (high_of p)
unfolding by_sample
each_rule P for_digit for_any for_fixed p = go (eqb p 48) (eqb p 63)
  where
    go : (t u : Bool) → P (cond t 118 (cond u 0 127)) (cond t 128 (cond u 0 128))
    go true u = for_digit
    go false true = for_any
    go false false = for_fixed

pub high_small : (p : ℕ) → high_of p < 256
high_small = each_rule (λ more high. high < 256) (lit< tt) (lit< tt) (lit< tt)

-- a difference that passes is a byte still with a number added, by computation
abbrev pub stays_byte : ℕ → ℕ → ℕ → Bool
stays_byte more high x = cond (clear 256 more high x) (ltb (x + more) 256) true

pub stays : (more high : ℕ) → T (below 256 (stays_byte more high)) → (x : ℕ) → x < 256 → clear 256 more high x ≡ true
    → x + more < 256
stays more high t x h k = ltb→lt (x + more) 256 (rw k at (below_at 256 (stays_byte more high) t x h))

pub no_carry : (p x : ℕ) → x < 256 → clear 256 (more_of p) (high_of p) x ≡ true → x + more_of p < 256
no_carry p x h =
    each_rule (λ more high. clear 256 more high x ≡ true → x + more < 256) (stays 118 128 tt x h) (stays 0 0 tt x h)
    (stays 127 128 tt x h) p

-- ---- the byte of a flag
-- the high bit of a byte that is not 0
abbrev pub bit_of : ℕ → ℕ
bit_of x = cond (eqb x 0) 0 128

pub nonzero_bit : (x : ℕ) → x < 256 → bit_and (bit_or (bit_and x 127 + 127) x) 128 ≡ bit_of x
nonzero_bit x h = eqb→eq _ _ (below_at 256 (λ x. eqb (bit_and (bit_or (bit_and x 127 + 127) x) 128) (bit_of x)) tt x h)

pub bit_small : (x : ℕ) → bit_of x < 256
bit_small x = go (eqb x 0)
  where
    go : (t : Bool) → cond {A = ℕ} t 0 128 < 256
    go true = lit< tt
    go false = lit< tt

-- a byte is one of two exactly if one of its differences from them is 0
pub one_zero : (b p q : ℕ) → eqb (bit_and (bit_of (bit_xor b p)) (bit_of (bit_xor b q))) 0 ≡ (eqb b p || eqb b q)
one_zero b p q = rw (same_xor b p, same_xor b q) (go (eqb b p) (eqb b q))
  where
    go : (t u : Bool) → eqb (bit_and (cond t 0 128) (cond u 0 128)) 0 ≡ (t || u)
    go true u = refl
    go false true = refl
    go false false = refl
