-- The bytes of a feed's state are that state again.
use Prim.Native.Nat.{ℕ, suc}
use native.Mathlib.Omega.{arith}
use mathlib.Core.Path.{◌≡◌, refl}
use mathlib.Core.List.{List, [], ◌∷◌, ◌++◌, append_assoc}
use lib.ListN.{length, get_or, take, length-append}
use lib.Seq.{take_at, get_or_at, append_snoc}
use Rattle.framing.specs.declared.Mode.{Mode}
use Rattle.framing.specs.declared.Mode.TheVariants.{Outside, Inside, Overlong}
use Rattle.framing.specs.declared.Framer.{Framer}
use Rattle.c_feed.specs.Feed.{mode_number, mode_of, framer_in, state_bytes}

mode_number_lem : (m : Mode) → mode_of (mode_number m) ≡ m
unfolding mode_of
mode_number_lem Outside = refl
mode_number_lem Inside = refl
mode_number_lem Overlong = refl

-- bytes, and two more after them
module _ (n : ℕ) (bytes : List ℕ) (x y : ℕ) (rest : List ℕ) (long : length bytes ≡ n) where
  first_bytes : take n ((bytes ++ x ∷ y ∷ []) ++ rest) ≡ bytes
  first_bytes = rw append_assoc (take_at bytes (x ∷ y ∷ rest) n long)

  byte_after : get_or ((bytes ++ x ∷ y ∷ []) ++ rest) n 0 ≡ x
  byte_after = rw append_assoc (get_or_at bytes x (y ∷ rest) 0 n long)

  byte_last : get_or ((bytes ++ x ∷ y ∷ []) ++ rest) (suc n) 0 ≡ y
  byte_last =
      rw (append_assoc, ← (append_snoc bytes x (y ∷ rest)))
      (get_or_at (bytes ++ x ∷ []) y rest 0 (suc n) (simp length-append (omega arith)))

pub framer_bytes : (f : Framer) (rest : List ℕ) → length f.bytes ≡ 66 → framer_in (state_bytes f ++ rest) ≡ f
unfolding framer_in state_bytes
framer_bytes f rest long =
    let m = mode_number f.mode in
    simp (
      first_bytes 66 f.bytes f.count m rest long,
      byte_after 66 f.bytes f.count m rest long,
      byte_last 66 f.bytes f.count m rest long,
      mode_number_lem,
    )
