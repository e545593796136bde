-- Laws of reading digits, at once or digit by digit.
use Rattle.std.proofs.Common.{◌≡◌, ℕ, suc, ◌+◌, ◌-◌, ◌*◌, ◌^◌, ◌<◌, ◌≤◌, true, false, List, ◌∷◌, length, get_or, drop, refl, lt_of_not-le, add-one, arith, drop_of_length-le, drop-cons, le-ltb, lt-ltb}
use native.Mathlib.Decide.{dec_le, dec_lt}
use Rattle.clock_time.specs.Errors.{accepted}
use Rattle.std.specs.Prelude.{Ok, Err}
use Rattle.vectors.specs.declared.digit_run.DigitsError.TheVariants.{NotDigit, TooLong}
use Rattle.decimal.specs.Decimal.{is_digit, first_non_digit, value_from, value, digits}
use Rattle.vectors.specs.DigitRun.{read_digits, digits_answer}
use Rattle.decimal.proofs.DecimalLaws.{power_next, power_small, digit_range}
use Rattle.decimal.proofs.DecimalLaws.{first_digit, first_other, first_within, digits_value}

-- at most 19 digits, which stand for n
pub record Reads (s : List ℕ) (n : ℕ) : Type 0 where
  pub short : length s ≤ 19
  pub all_digits : first_non_digit s ≡ length s
  pub stands : value s ≡ n

pub read_long : (s : List ℕ) → 19 < length s → digits_answer (Err TooLong) ≡ read_digits s
unfolding read_digits
read_long s h = simp (lt-ltb _ _ h)

pub read_offence : (s : List ℕ) {i : ℕ} → length s ≤ 19 → first_non_digit s ≡ i → i < length s
    → digits_answer (Err (NotDigit i)) ≡ read_digits s
unfolding read_digits
read_offence s h e l = simp (le-ltb _ _ h, e, lt-ltb _ _ l)

pub read_number : {s : List ℕ} {n : ℕ} → Reads s n → digits_answer (Ok n) ≡ read_digits s
unfolding read_digits
read_number {s} r =
    let l : length s ≤ first_non_digit s = omega arith in
    simp (le-ltb _ _ r.short, le-ltb _ _ l, r.stands)

pub read_accepted : {s : List ℕ} {n : ℕ} → Reads s n → (read_digits s).answer ≡ accepted n
read_accepted r = rw (← read_number r)

pub accepted_reads : (s : List ℕ) {n : ℕ} → (read_digits s).answer ≡ accepted n → Reads s n
accepted_reads s h = elim (dec_le (length s) 19) [
  | no l ↦ let z : ◌≡◌ {A = ℕ} 0 1 = cc (read_long s (lt_of_not-le l)) in absurd (omega arith)
  | yes l ↦ elim (dec_lt (first_non_digit s) (length s)) [
    | yes o ↦ let z : ◌≡◌ {A = ℕ} 0 1 = cc (read_offence s l refl o) in absurd (omega arith)
    | no o ↦
        let all : first_non_digit s ≡ length s = omega (arith, first_within s) in
        let e = read_number record { short = l; all_digits = all; stands = refl } in
        record { short = l; all_digits = all; stands = cc e }
  ]
]

pub digits_read : {s : List ℕ} {n : ℕ} → Reads s n → digits (length s) n ≡ s
digits_read {s} r = rw r.stands at (digits_value s r.all_digits)

-- the first i bytes of s are digits, which stand for n
pub record Passed (s : List ℕ) (i n : ℕ) : Type 0 where
  pub within : i ≤ length s
  pub below : n < 10 ^ i
  pub so_far : first_non_digit s ≡ i + first_non_digit (drop i s)
  pub stands : value s ≡ value_from n (drop i s)

pub passed_none : (s : List ℕ) → Passed s 0 0
passed_none s = record { within = omega arith; below = omega arith; so_far = omega arith; stands = refl }

module _ {s : List ℕ} {i n : ℕ} (p : Passed s i n) where
  pub passed_small : i ≤ 19 → n < 10 ^ 19
  passed_small h = omega (arith, power_small h)

  pub passed_all : length s ≤ 19 → length s ≤ i → Reads s n
  unfolding first_non_digit value_from
  passed_all short h =
      let e = drop_of_length-le s h in
      record { short = short; all_digits = omega (arith, rw e at p.so_far); stands = rw e at p.stands }

  module _ (h : i < length s) where
    next : drop i s ≡ get_or s i 0 ∷ drop (suc i) s
    next = drop-cons s i 0 h

    pub passed_other : is_digit (get_or s i 0) ≡ false → first_non_digit s ≡ i
    passed_other o = omega (arith, rw next at p.so_far, first_other _ (drop (suc i) s) o)

    pub passed_digit : is_digit (get_or s i 0) ≡ true → Passed s (i + 1) (10 * n + (get_or s i 0 - 48))
    unfolding value_from
    passed_digit g =
        let range = digit_range (get_or s i 0) g in
        let e = first_digit _ (drop (suc i) s) g in
        record {
          within = omega arith;
          below = omega (arith, power_next i);
          so_far = rw add-one (omega (arith, rw next at p.so_far, e));
          stands = rw (add-one, p.stands, next);
        }
