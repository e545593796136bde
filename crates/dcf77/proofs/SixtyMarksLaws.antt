-- The 60 marks that a minute's run is a part of.
use Prim.Native.Nat.{◌+◌}
use mathlib.Core.Path.{◌≡◌, refl}
use mathlib.Core.Bool.{Bool, true, false, cond}
use mathlib.Core.List.{[], ◌∷◌, ◌++◌}
use lib.ListN.{length, take}
use mir.Val.{bool_byte}
use Rattle.dcf77.specs.Marks.{bits}
use Rattle.dcf77.specs.Minute.{first_marks_of, minute_text}
use Rattle.dcf77.specs.declared.MinuteTime.{MinuteTime}

pub length_sixty_marks : (a : MinuteTime) → length (first_marks_of a ++ (0 ∷ [])) ≡ 60
unfolding first_marks_of bits
length_sixty_marks a = refl

pub take_sixty_marks : (a : MinuteTime)
    → take (59 + bool_byte a.detail.sixty) (first_marks_of a ++ (0 ∷ [])) ≡ minute_text a
unfolding first_marks_of minute_text bits
take_sixty_marks a = go a.detail.sixty
  where
    go : (t : Bool) → take (59 + bool_byte t) (first_marks_of a ++ (0 ∷ [])) ≡ first_marks_of a ++ cond t (0 ∷ []) []
    go true = refl
    go false = refl
