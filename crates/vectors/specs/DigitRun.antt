-- Runs of digits: what is read, and what is written.
use Rattle.std.specs.Prelude.{ℕ, ◌^◌, cond, ◌&&◌, List, length, nat_le, nat_lt, Result, Ok, Err}
use Rattle.clock_time.specs.Errors.{Answer, accepted, refused}
use Rattle.clock_time.specs.Writing.{Written, writing}
use Rattle.decimal.specs.Decimal.{first_non_digit, value, digits}
use Rattle.vectors.specs.declared.digit_run.DigitsError.{DigitsError}
use Rattle.vectors.specs.declared.digit_run.DigitsError.TheVariants.{NotDigit, TooLong}

-- an answer, with the place of the byte that offends, 0 if none does
pub record Placed : Type 0 where
  pub answer : Answer ℕ
  pub place : ℕ

-- 3: "no digit in a digit place" (01, Refusal numbers), with the first such place; more than 19 digits may not fit 64
-- bits, and that is 1: "string length wrong for its kind" (01, Refusal numbers)
unfoldable pub read_digits : List ℕ → Placed
read_digits s =
    cond (nat_lt 19 (length s)) (record { answer = refused 1; place = 0 })
    (cond (nat_lt (first_non_digit s) (length s)) (record { answer = refused 3; place = first_non_digit s })
    (record { answer = accepted (value s); place = 0 }))

-- the function's answer, with the place of the byte that offends
abbrev pub digits_answer : Result ℕ DigitsError → Placed
digits_answer (Ok n) = record { answer = accepted n; place = 0 }
digits_answer (Err (NotDigit i)) = record { answer = refused 3; place = i }
digits_answer (Err TooLong) = record { answer = refused 1; place = 0 }

-- n as k digits: 23 if no run of k digits that can be read stands for n
unfoldable pub write_digits : ℕ → ℕ → List ℕ → Written
write_digits n k buffer = writing (nat_le k 19 && nat_lt n (10 ^ k)) (digits k n) buffer
