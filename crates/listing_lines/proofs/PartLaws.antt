-- Bytes that are written to a part of a buffer.
use Prim.Native.Nat.{ℕ, ◌+◌, ◌-◌, ◌≤◌}
use native.Mathlib.Omega.{arith}
use native.Mathlib.Nat.{le_refl}
use mathlib.Core.Path.{◌≡◌, sym, ap, ◌∙◌}
use mathlib.Core.List.{List, [], ◌++◌, append-nil, append_assoc}
use lib.ListN.{length, take, drop, length-drop, drop_of_length-le}
use lib.Seq.{drop-drop, take_all, take-length, take-take, length-take-le, paste}

module _ (s d : List ℕ) (at : ℕ) (room : at + length s ≤ length d) where
  part : take (length d - at) (drop at d) ≡ drop at d
  part = take_all (length d - at) (drop at d) (omega (arith, length-drop at d))

  -- all of s copied to the front of `&mut d[at..]`, which comes back as `x`
  pub copied_part : (x : List ℕ) → x ≡ take (length s) s ++ drop (length s) (take (length d - at) (drop at d))
      → take at d ++ (x ++ drop (length d - at) (drop at d)) ≡ paste d at s (length s)
  copied_part x e =
      let memory : x ≡ s ++ drop (length s) (drop at d) = e ∙ rw (part, take-length s) in
      let past : drop (length d - at) (drop at d) ≡ [] =
      let h : length (drop at d) ≤ length d - at = omega (arith, length-drop at d) in drop_of_length-le (drop at d) h in
      rw (memory, past, append-nil, drop-drop, take-length) (sym (append_assoc (take at d) s (drop (at + length s) d)))

-- the first n bytes of s
pub paste_take : (d : List ℕ) (at : ℕ) (s : List ℕ) (n : ℕ) → n ≤ length s
    → paste d at (take n s) (length (take n s)) ≡ paste d at s n
paste_take d at s n h =
    ap (λ (k : ℕ). paste d at (take n s) k) (length-take-le n s h)
    ∙ ap (λ (x : List ℕ). take at d ++ x ++ drop (at + n) d) (take-take n n s (le_refl n))
