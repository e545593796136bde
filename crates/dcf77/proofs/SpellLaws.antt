-- Numbers that spell marks, put together from the parts of a run.
use Prim.Native.Nat.{ℕ, zero, suc, ◌+◌, ◌-◌, ◌*◌, ◌/◌, ◌%◌, ◌^◌, ◌<◌}
use native.Mathlib.Nat.{zero-add, suc-add, mul_assoc, add_comm, mul_comm, mod-lt, mod-mod, pow-succ'}
use native.Mathlib.Numerals.{add-one}
use native.Mathlib.Omega.{arith}
use mathlib.Core.Path.{◌≡◌, refl, ap, ◌∙◌}
use mathlib.Core.Bool.{Bool, true, false}
use mathlib.Core.List.{List, [], ◌∷◌, ◌++◌, append_assoc, append-nil}
use lib.ListN.{length, take, set}
use lib.Seq.{take-suc-set, take_all}
use lib.Count.{ones, ones_step}
use lib.Arith.{digits_lt}
use lib.Pow.{pow_pos, pow-add, field, mod-mod-pow}
use mir.Val.{bool_byte}
use Rattle.clock_time.specs.Lists.{sum}
use Rattle.dcf77.specs.Marks.{bits}
use Rattle.dcf77.specs.Writable.{Spells}
use Rattle.dcf77.specs.Minute.{mark, with_parity}

-- ---- bits
bits_mod : (k n : ℕ) → bits k (n % 2 ^ k) ≡ bits k n
unfolding bits
bits_mod zero n = refl
bits_mod (suc k) n =
    let half : n % 2 ^ suc k / 2 ≡ n / 2 % 2 ^ k = rw (add-one k) at (field n k 1) in
    let odd : n % 2 ^ suc k % 2 ≡ n % 2 = rw (add-one k) at (mod-mod-pow n k 1) in
    rw (odd, half, bits_mod k (n / 2))

bits_join : (j k lo hi : ℕ) → lo < 2 ^ j → bits (j + k) (lo + 2 ^ j * hi) ≡ bits j lo ++ bits k hi
unfolding bits
bits_join zero k lo hi h =
    let e : lo + 1 * hi ≡ hi = omega arith in
    rw (zero-add, e)
bits_join (suc j) k lo hi h =
    let below : lo < 2 * 2 ^ j = rw (pow-succ' 2 j) at h in
    let e : lo + 2 ^ suc j * hi ≡ lo + 2 * (2 ^ j * hi) = rw (pow-succ', mul_assoc) in
    let odd : (lo + 2 * (2 ^ j * hi)) % 2 ≡ lo % 2 = omega arith in
    let half : (lo + 2 * (2 ^ j * hi)) / 2 ≡ lo / 2 + 2 ^ j * hi = omega arith in
    rw (suc-add, e, odd, half, bits_join j k (lo / 2) hi (omega arith))

sum_bits : (k n : ℕ) → n < 2 ^ k → sum (bits k n) ≡ ones n
unfolding bits ones
sum_bits zero n h =
    let e : n ≡ 0 = omega arith in
    rw e
sum_bits (suc k) n h =
    let below : n < 2 * 2 ^ k = rw (pow-succ' 2 k) at h in
    rw (ones_step n, sum_bits k (n / 2) (omega arith))

-- ---- numbers that spell marks
pub spells_small : (k n : ℕ) → n < 2 ^ k → Spells k (bits k n) n
spells_small k n h = record { below = h; marks = refl }

pub spells_last : (k n : ℕ) → Spells k (bits k n) (n % 2 ^ k)
spells_last k n = record { below = mod-lt n (pow_pos k); marks = bits_mod k n }

pub spells_mark : (b : Bool) → Spells 1 (mark b ∷ []) (bool_byte b)
unfolding bits
spells_mark true = record { below = omega arith; marks = refl }
spells_mark false = record { below = omega arith; marks = refl }

pub spells_join : {j k lo hi : ℕ} {x y : List ℕ} → Spells j x lo → Spells k y hi
    → Spells (j + k) (x ++ y) (lo + 2 ^ j * hi)
spells_join {j} {k} {lo} {hi} l h =
    record {
      below = rw (pow-add 2 j k, add_comm lo, mul_comm (2 ^ j), mul_comm (2 ^ j)) (digits_lt h.below l.below);
      marks = bits_join j k lo hi l.below ∙ rw (l.marks, h.marks);
    }

pub spells_short : {k n : ℕ} {x : List ℕ} → Spells k x n → Spells (1 + k) (0 ∷ x) (2 * n)
unfolding bits
spells_short {k} {n} s = rw (zero-add (2 * n)) at (spells_join (spells_small 1 0 (pow_pos 1)) s)

pub spells_even : {k n : ℕ} {x : List ℕ} → Spells k x n → Spells (k + 1) (with_parity x) (n + 2 ^ k * (ones n % 2))
unfolding bits
spells_even {k} {n} {x} s =
    let h : sum x ≡ ones n = rw (← s.marks) (sum_bits k n s.below) in
    let last : ones n % 2 % 2 ≡ sum x % 2 = rw (h, mod-mod) in
    let w = spells_join s (spells_small 1 (ones n % 2) (mod-lt (ones n) (pow_pos 1))) in
    record { below = w.below; marks = w.marks ∙ ap (λ (p : ℕ). x ++ (p ∷ [])) last }

-- two digits, the second with k marks, and the parity
pub spells_number : (k n : ℕ)
    → let x = n % 10 + 16 * (n / 10 % 2 ^ k) in
    Spells (4 + k + 1) (with_parity (bits 4 (n % 10) ++ bits k (n / 10))) (x + 2 ^ (4 + k) * (ones x % 2))
spells_number k n =
    let ones : n % 10 < 2 ^ 4 = omega arith in
    spells_even (spells_join (spells_small 4 (n % 10) ones) (spells_last k (n / 10)))

pub spells_pad : {k n : ℕ} {x : List ℕ} → Spells k x n → bits (k + 1) n ≡ x ++ (0 ∷ [])
unfolding bits
spells_pad {k} {n} s =
    let e : n + 2 ^ k * 0 ≡ n = omega arith in
    let w : bits (k + 1) n ≡ bits k n ++ (0 ∷ []) = rw e at (bits_join k 1 n 0 s.below) in
    w ∙ rw s.marks

-- ---- one bit more is put
pub bits_more : (line : List ℕ) (rest i : ℕ) → i < 60 → length line ≡ 60
    → take (i + 1) (set line i (rest % 2)) ++ bits (60 - (i + 1)) (rest / 2) ≡ take i line ++ bits (60 - i) rest
unfolding bits
bits_more line rest i h long =
    let next : 60 - i ≡ suc (60 - (i + 1)) = omega arith in
    rw (next, add-one i, take-suc-set line i (rest % 2) (omega arith), append_assoc)

-- and all are put
pub bits_all : (line : List ℕ) (rest : ℕ) → length line ≡ 60 → line ≡ take 60 line ++ bits (60 - 60) rest
unfolding bits
bits_all line rest long = rw (take_all 60 line (omega arith), append-nil line)
