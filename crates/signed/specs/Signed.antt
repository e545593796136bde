-- Signed numbers from a sign and a magnitude.
use Rattle.std.specs.Prelude.{ℕ, Bool, cond, not, ◌&&◌, ◌||◌, leb, eqb, ℤ, pos, neg_ℤ}
use Rattle.std.specs.Int.Signed.{non_neg}

-- the number of a magnitude, below zero or not
unfoldable pub signed : Bool → ℕ → ℤ
signed negative magnitude = cond negative (neg_ℤ (pos magnitude)) (pos magnitude)

-- the byte is one of two signs, the magnitude is at most the limit, and a zero is not below zero: "`-00:00` is refused
-- with 8"; "a zero with S or W is refused" (01, Meinberg and ELV strings)
unfoldable pub sign_holds : ℕ → ℕ → ℕ → ℕ → ℕ → Bool
sign_holds above below limit byte magnitude =
    (eqb byte above || eqb byte below) && leb magnitude limit && not (eqb magnitude 0 && eqb byte below)

-- the byte for a number's sign; zero takes the one for numbers above zero
abbrev pub sign_byte : ℕ → ℕ → ℤ → ℕ
sign_byte above below z = cond (non_neg z) above below
