-- Laws of the single step.
use Prim.Native.Nat.{ℕ, ◌+◌, ◌<◌, ◌≤◌}
use native.Mathlib.Omega.{arith}
use mathlib.Core.Path.{◌≡◌, refl, sym, ap, ◌∙◌}
use mathlib.Core.Bool.{Bool, true, false, cond, ◌||◌, true≢false}
use mathlib.Core.List.{List}
use lib.Dec.{eqb, ltb}
use lib.ListN.{set}
use borrow.Author.Tests.{ltb-true, eqb-true, lt-ltb, le-ltb}
use Rattle.framing.specs.declared.Mode.{Mode}
use Rattle.framing.specs.declared.Mode.TheVariants.{Outside, Inside, Overlong}
use Rattle.framing.specs.declared.Framer.{Framer}
use Rattle.framing.specs.declared.Event.TheVariants.{Nothing, Complete, Dropped}
use Rattle.framing.specs.declared.StepResult.{StepResult}
use Rattle.framing.specs.Step.{framer_of, when_inside, effective_mode}
use Rattle.framing.specs.Step.{in_mode, keeping, etx_at, plain_at, stx, step_of}
use Rattle.framing.specs.Run.{Still}

either : {A : Type 0} (t : Bool) (a : A) → cond t a a ≡ a
either true a = refl
either false a = refl

neither : (t u : Bool) → t || u ≡ false → (t ≡ false) × (u ≡ false)
neither true u h = absurd (true≢false h)
neither false u h = (refl, h)

pub mode_more : (count : ℕ) (mode : Mode) → 66 < count → effective_mode count mode ≡ Outside
unfolding effective_mode
mode_more count mode h = simp (lt-ltb 66 count h)

pub mode_outside : (count : ℕ) → effective_mode count Outside ≡ Outside
unfolding effective_mode
mode_outside count = simp either

pub mode_inside : (count : ℕ) → count < 66 → effective_mode count Inside ≡ Inside
unfolding effective_mode
mode_inside count h = simp (le-ltb 66 count (omega arith), lt-ltb count 66 h)

pub mode_full : (count : ℕ) → count ≤ 66 → 66 ≤ count → effective_mode count Inside ≡ Overlong
unfolding effective_mode
mode_full count few many = simp (le-ltb 66 count few, le-ltb count 66 many)

pub mode_overlong : (count : ℕ) → count ≤ 66 → effective_mode count Overlong ≡ Overlong
unfolding effective_mode
mode_overlong count h = simp (le-ltb 66 count h)

pub inside_mode : (count : ℕ) (mode : Mode) → effective_mode count mode ≡ Inside → (mode ≡ Inside) × (count < 66)
unfolding effective_mode
inside_mode count mode h = go (ltb 66 count) (ltb count 66) refl mode h
  where
    go : (t u : Bool) → ltb count 66 ≡ u → (m : Mode)
        → cond t Outside (when_inside m u) ≡ Inside → (m ≡ Inside) × (count < 66)
    go true u e m h = absurd cc
    go false u e Outside h = absurd cc
    go false true e Inside h = (refl, ltb-true count 66 e)
    go false false e Inside h = absurd cc
    go false u e Overlong h = absurd cc

-- if a byte is kept there is room for it
pub inside_room : (count : ℕ) (mode : Mode) → effective_mode count mode ≡ Inside → count < 66
inside_room count mode h = (inside_mode count mode h).1

-- what is inside with no more than 66 kept is not outside
pub inside_not_outside : (count : ℕ) → count ≤ 66 → effective_mode count Inside ≡ Outside → ⊥
unfolding effective_mode
inside_not_outside count few h = go (ltb count 66) (simp (le-ltb 66 count few) at h)
  where
    go : (u : Bool) → when_inside Inside u ≡ Outside → ⊥
    go true h = cc
    go false h = cc

-- what holds of a step's result, by the byte and the effective mode
pub step_cases : (P : StepResult → Type 0) (f : Framer) (b : ℕ) → (b ≡ 2 → P (stx f))
    → (b ≡ 3 → (m : Mode) → effective_mode f.count f.mode ≡ m → P (etx_at m f))
    → (eqb b 2 || eqb b 3 ≡ false → (m : Mode) → effective_mode f.count f.mode ≡ m → P (plain_at m f b))
    → P (step_of f b)
unfolding step_of
step_cases P f b first last other = go (eqb b 2) (eqb b 3) refl refl
  where
    go : (t u : Bool) → eqb b 2 ≡ t → eqb b 3 ≡ u
        → P (cond t (stx f)
        (cond u (etx_at (effective_mode f.count f.mode) f) (plain_at (effective_mode f.count f.mode) f b)))
    go true u p q = first (eqb-true b 2 p)
    go false true p q = last (eqb-true b 3 q) (effective_mode f.count f.mode) refl
    go false false p q = other (simp (p, q)) (effective_mode f.count f.mode) refl

pub nothing_complete : {A : Type 0} {n : ℕ} → Nothing ≡ Complete n → A
nothing_complete e = absurd cc

pub dropped_complete : {A : Type 0} {n : ℕ} → Dropped ≡ Complete n → A
dropped_complete e = absurd cc

-- a complete string has 1 to 66 bytes, from any state
pub step_complete : (f : Framer) (b n : ℕ) → (step_of f b).event ≡ Complete n → (1 ≤ n) × (n ≤ 66)
step_complete f b n =
    step_cases (λ r. r.event ≡ Complete n → (1 ≤ n) × (n ≤ 66)) f b (λ e. nothing_complete) etx plain
  where
    etx : b ≡ 3 → (m : Mode) → effective_mode f.count f.mode ≡ m → (etx_at m f).event ≡ Complete n
        → (1 ≤ n) × (n ≤ 66)
    etx e Outside at h = nothing_complete h
    etx e Inside at h =
        let q : f.count + 1 ≡ n = cc in
        (omega (arith, q), omega (arith, q, inside_room f.count f.mode at))
    etx e Overlong at h = dropped_complete h

    plain : eqb b 2 || eqb b 3 ≡ false → (m : Mode) → effective_mode f.count f.mode ≡ m
        → (plain_at m f b).event ≡ Complete n → (1 ≤ n) × (n ≤ 66)
    plain h Outside at = nothing_complete
    plain h Inside at = nothing_complete
    plain h Overlong at = nothing_complete

module _ (f : Framer) (b : ℕ) where
  pub step_stx : b ≡ 2 → step_of f b ≡ stx f
  unfolding step_of
  step_stx e = simp e

  module _ (m : Mode) (at : effective_mode f.count f.mode ≡ m) where
    pub step_etx : b ≡ 3 → step_of f b ≡ etx_at m f
    unfolding step_of
    step_etx e = simp (e, at)

    pub step_plain : eqb b 2 ≡ false → eqb b 3 ≡ false → step_of f b ≡ plain_at m f b
    unfolding step_of
    step_plain p q = simp (p, q, at)

  pub step_ends : effective_mode f.count f.mode ≡ Inside → b ≡ 3
      → step_of f b ≡ record { framer = in_mode (keeping f b) Outside; event = Complete (f.count + 1) }
  unfolding step_of
  step_ends at e = simp (e, at)

  pub step_outside : effective_mode f.count f.mode ≡ Outside → eqb b 2 ≡ false
      → step_of f b ≡ record { framer = f; event = Nothing }
  unfolding step_of
  step_outside at p = simp (p, at, either)

  -- a byte that is neither STX nor ETX
  pub step_other : (m : Mode) → effective_mode f.count f.mode ≡ m → eqb b 2 || eqb b 3 ≡ false
      → step_of f b ≡ plain_at m f b
  step_other m at h =
      let p = neither (eqb b 2) (eqb b 3) h in
      step_plain m at p.0 p.1

pub still_outside : (f : Framer) → effective_mode f.count f.mode ≡ Outside → Still f 2
still_outside f at b h = step_outside f b at (neither (eqb b 2) (eqb b 2) h).0

pub still_overlong : (f : Framer) → f.mode ≡ Overlong → f.count ≤ 66 → Still f 3
still_overlong f overlong few b h =
    step_other f b Overlong (rw overlong (mode_overlong f.count few)) h
    ∙ ap (λ (m : Mode). record { framer = in_mode f m; event = Nothing }) (sym overlong)

-- it is kept if there is room
pub step_keeps : (bytes : List ℕ) (count b : ℕ) → count < 66 → eqb b 2 || eqb b 3 ≡ false
    → step_of (framer_of bytes count Inside) b
    ≡ record { framer = framer_of (set bytes count b) (count + 1) Inside; event = Nothing }
step_keeps bytes count b room h = step_other _ b Inside (mode_inside count room) h

-- and with 66 kept makes the string overlong
pub step_full : (bytes : List ℕ) (b : ℕ) → eqb b 2 || eqb b 3 ≡ false
    → step_of (framer_of bytes 66 Inside) b ≡ record { framer = framer_of bytes 66 Overlong; event = Nothing }
step_full bytes b h = step_other _ b Overlong (mode_full 66 (omega arith) (omega arith)) h
