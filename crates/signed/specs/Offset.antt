-- A UTC offset as it is written.
use Rattle.std.specs.Prelude.{◌/◌, ◌%◌, ℕ, List, ◌∷◌, ◌++◌, ℤ, nat_abs}
use Prim.Native.Char.{code}
use Rattle.clock_time.specs.Lists.{ascii}
use Rattle.decimal.specs.Decimal.{digits}
use Rattle.signed.specs.Signed.{sign_byte}

-- the bytes of an offset, from its sign on
unfoldable pub offset_text : ℤ → List ℕ
offset_text z = sign_byte (code "+") (code "-") z ∷ digits 2 (nat_abs z / 60) ++ ascii ":" ++ digits 2 (nat_abs z % 60)
