-- What an array's `map` gives by a closure that stays as it was.
use Rattle.std.proofs.Common.{◌≡◌, ℕ, zero, suc, List, map, refl, add-one}
use denote.Param.Members.{Mut, Called}
use Rattle.std.specs.Array.{MapsFrom}
use Rattle.clock_time.specs.Lists.{slice}

pub maps_each : {F : Type 0} (g : Mut F (ℕ × Unit {0}) ℕ) (h : ℕ → ℕ) (f : F)
    → ((x y : ℕ) (q : F) → Called g f (x, tt) y q → (q ≡ f) × (y ≡ h x))
    → (xs ys : List ℕ) (i n : ℕ) → MapsFrom g f xs ys i n → slice i n ys ≡ map h (slice i n xs)
maps_each g h f each xs ys i zero m = refl
maps_each g h f each xs ys i (suc n) m =
    let w = each m.1 m.2 m.0 m.5 in
    let later = rw (w.0, add-one) at m.6 in
    rw (m.3.1 0, m.4.1 0, w.1, maps_each g h f each xs ys (suc i) n later)
