-- Laws of texts that are the same.
use Prim.Native.Nat.{ℕ}
use mathlib.Core.Path.{◌≡◌, refl, sym, ap, ◌∙◌}
use mathlib.Core.Bool.{Bool, ◌&&◌}
use mathlib.Core.List.{List, [], ◌∷◌}
use lib.Dec.{eqb}
use Rattle.std.specs.Str.{bytes_eq}
use Rattle.list_times.specs.Request.{is_same}

same_equal : (s t : List ℕ) → bytes_eq s t ≡ is_same s t
unfolding is_same
same_equal [] [] = refl
same_equal [] (b ∷ t) = refl
same_equal (a ∷ s) [] = refl
same_equal (a ∷ s) (b ∷ t) = ap (λ (r : Bool). eqb a b && r) (same_equal s t)

-- what `==` answers of a slice s and a slice u whose bytes are t
pub same : (s u t : List ℕ) {r b : Bool} → u ≡ t → r ≡ bytes_eq s u → r ≡ b → is_same s t ≡ b
same s u t l e h = sym (same_equal s t) ∙ ap (bytes_eq s) (sym l) ∙ sym e ∙ h
