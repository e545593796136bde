-- Laws of numbers in decimal.
use Prim.Native.Nat.{ℕ, zero, suc, ◌+◌, ◌*◌, ◌/◌, ◌%◌, ◌^◌, ◌≤◌, ◌<◌}
use native.Mathlib.Omega.{arith}
use native.Mathlib.Decide.{dec_lt}
use native.Mathlib.Nat.{mod-eq_of_lt, pow-suc}
use native.Mathlib.Numerals.{add-one}
use mathlib.Core.Path.{◌≡◌, refl, sym, ap, ◌∙◌}
use mathlib.Core.Bool.{Bool, true, false, cond}
use mathlib.Core.List.{List, [], ◌∷◌, ◌++◌}
use borrow.Author.Tests.{lt-ltb, le-ltb}
use lib.Dec.{ltb}
use lib.ListN.{length, length-append}
use Rattle.std.specs.Fmt.{decimal}
use Rattle.std.proofs.lemmas.Fmt.{decimal_digit, decimal_step}
use Rattle.listing_lines.specs.Numeral.{numeral_within, numeral}

pub within_small : (k n : ℕ) → n < 10 → numeral_within k n ≡ (48 + n % 10) ∷ []
unfolding numeral_within
within_small zero n h = refl
within_small (suc k) n h = simp (lt-ltb _ _ h)

pub within_zero : (n : ℕ) → numeral_within 0 n ≡ (48 + n % 10) ∷ []
unfolding numeral_within
within_zero n = refl

within_suc : (k n : ℕ) → 10 ≤ n → numeral_within (suc k) n ≡ numeral_within k (n / 10) ++ ((48 + n % 10) ∷ [])
unfolding numeral_within
within_suc k n h = simp (le-ltb _ _ h)

pub within_more : (k n : ℕ) → 10 ≤ n → numeral_within (k + 1) n ≡ numeral_within k (n / 10) ++ ((48 + n % 10) ∷ [])
within_more k n h = ap (λ (j : ℕ). numeral_within j n) (add-one k) ∙ within_suc k n h

-- ---- what the library writes for a number
decimal_within : (k n : ℕ) → n < 10 ^ (k + 1) → n < 2 ^ 64 → decimal n ≡ numeral_within k n
decimal_within zero n h f =
    let small : n < 10 = omega (arith, h) in
    decimal_digit n small ∙ sym (within_zero n ∙ simp (mod-eq_of_lt small))
decimal_within (suc k) n h f = elim (dec_lt n 10) [
  | yes small ↦ decimal_digit n small ∙ sym (within_small (suc k) n small ∙ simp (mod-eq_of_lt small))
  | no big ↦
      let least : 10 ≤ n = omega arith in
      let power : 10 ^ (suc k + 1) ≡ 10 ^ (k + 1) * 10 = simp add-one (pow-suc 10 (suc k)) in
      let rest : n / 10 < 10 ^ (k + 1) = omega (arith, h, power) in
      decimal_step n least f
      ∙ ap (λ (x : List ℕ). x ++ ((48 + n % 10) ∷ [])) (decimal_within k (n / 10) rest (omega arith))
      ∙ sym (within_suc k n least)
]

pub decimal_numeral : (n : ℕ) → n < 2 ^ 64 → decimal n ≡ numeral n
decimal_numeral n f = decimal_within 19 n (omega arith) f

-- ---- numerals of one and of two digits
pub numeral_one : (n : ℕ) → n < 10 → numeral n ≡ (48 + n) ∷ []
unfolding numeral_within
numeral_one n h = simp (lt-ltb _ _ h, mod-eq_of_lt h)

pub numeral_two : (n : ℕ) → 10 ≤ n → n < 100 → numeral n ≡ (48 + n / 10) ∷ (48 + n % 10) ∷ []
unfolding numeral_within
numeral_two n h k =
    let q : n / 10 < 10 = omega arith in
    simp (le-ltb _ _ h, lt-ltb _ _ q, mod-eq_of_lt q)

-- ---- no numeral is longer than its bound
pub numeral_short : (k n : ℕ) → length (numeral_within k n) ≤ k + 1
unfolding numeral_within
numeral_short zero n = omega arith
numeral_short (suc k) n = go (ltb n 10) (numeral_short k (n / 10))
  where
    go : (t : Bool) → length (numeral_within k (n / 10)) ≤ k + 1
        → length (cond t ((48 + n % 10) ∷ []) (numeral_within k (n / 10) ++ ((48 + n % 10) ∷ []))) ≤ suc k + 1
    go true h = omega arith
    go false h = simp length-append (omega arith)
