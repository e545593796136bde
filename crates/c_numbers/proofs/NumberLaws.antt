-- Laws of readings as numbers, and of putting them into lent memory.
use Prim.Native.Nat.{ℕ, ◌^◌, ◌≤◌, ◌<◌}
use native.Mathlib.Omega.{arith}
use mathlib.Core.Path.{◌≡◌, refl, ◌∙◌}
use mathlib.Core.Bool.{Bool, true, false}
use mathlib.Core.List.{List, [], ◌∷◌, ◌++◌}
use lib.ListN.{length, get_or, take, drop}
use lib.Seq.{length-take-le}
use lib.IntN.{ℤ, pos}
use lib.Signed.{mag}
use mir.Syntax.{Width}
use mir.Val.{to_z, of_z, hbits, bool_byte}
use mir.Facts.{to_z-of_z}
use borrow.Author.Rules.{sfits_of}
use borrow.Author.Tests.{lt-ltb, le-ltb}
use Rattle.clock_time.specs.Errors.{accepted, refused}
use Rattle.clock_time.specs.Exit.{exit}
use Rattle.clock_time.specs.declared.ClockTime.{ClockTime}
use Rattle.c_numbers.specs.Numbers.{flag_number, time_numbers, put_numbers}

-- ---- what the machine holds for a number that fits
module _ (w : Width) {z : ℤ} (h : mag z < 2 ^ hbits w) where
  pub kept : to_z w (of_z w z) ≡ z
  kept = to_z-of_z (sfits_of h)

  pub held : {v : ℤ} → z ≡ v → to_z w (of_z w z) ≡ v
  held e = kept ∙ e

-- a flag as the machine's number
pub flag_byte : (on : Bool) → pos (bool_byte on) ≡ flag_number on
flag_byte true = refl
flag_byte false = refl

-- ---- into lent memory
module _ (numbers lent : List ℤ) where
  pub put_no_room : length lent < length numbers → exit (refused 20) lent ≡ put_numbers numbers lent
  unfolding put_numbers
  put_no_room h = simp (lt-ltb _ _ h)

  pub put_room : length numbers ≤ length lent → (x : List ℤ) → x ≡ numbers ++ drop (length numbers) lent
      → exit (accepted tt) x ≡ put_numbers numbers lent
  unfolding put_numbers
  put_room h x e = simp (le-ltb _ _ h, e)

-- ---- three numbers
pub three : (more : List ℤ) → length more ≡ 3
    → get_or more 0 (pos 0) ∷ get_or more 1 (pos 0) ∷ get_or more 2 (pos 0) ∷ [] ≡ more
three [] e = absurd (omega (arith, e))
three (a ∷ []) e = absurd (omega (arith, e))
three (a ∷ b ∷ []) e = absurd (omega (arith, e))
three (a ∷ b ∷ c ∷ []) e = refl
three (a ∷ b ∷ c ∷ d ∷ more) e = absurd (omega (arith, e))

-- ---- the first of a clock time's numbers and three more
module _ (t : ClockTime) (more lent : List ℤ) (count : ℕ) (long : length more ≡ 3) (few : count ≤ 17) where
  first_long : length (take count (time_numbers t ++ more)) ≡ count
  unfolding time_numbers
  first_long = length-take-le count (time_numbers t ++ more) (simp long (omega arith))

  pub first_no_room : length lent < count
      → exit (refused 20) lent ≡ put_numbers (take count (time_numbers t ++ more)) lent
  first_no_room h = put_no_room _ lent (rw first_long h)

  pub first_room : count ≤ length lent
      → exit (accepted tt) (take count (time_numbers t ++ more) ++ drop count lent)
      ≡ put_numbers (take count (time_numbers t ++ more)) lent
  first_room h = put_room _ lent (rw first_long h) _ (rw first_long)
