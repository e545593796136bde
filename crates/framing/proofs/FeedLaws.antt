-- Laws of the feed over a list, and of what it takes with no event.
use Prim.Native.Nat.{ℕ, suc, ◌+◌, ◌-◌}
use native.Mathlib.Omega.{arith}
use native.Mathlib.Numerals.{one-add}
use native.Mathlib.Nat.{add-zero, zero-add, add_assoc, sub-zero, sub_self}
use mathlib.Core.Path.{◌≡◌, refl, sym, ap, ◌∙◌}
use mathlib.Core.Bool.{Bool, true, false, cond, true≢false}
use mathlib.Core.List.{List, [], ◌∷◌}
use lib.ListN.{length, take, drop, length-drop}
use lib.Seq.{take_all}
use Rattle.framing.specs.declared.Framer.{Framer}
use Rattle.framing.specs.declared.Event.{Event}
use Rattle.framing.specs.declared.Event.TheVariants.{Nothing, Complete, Dropped}
use Rattle.framing.specs.declared.FeedResult.{FeedResult}
use Rattle.framing.specs.Step.{step_of}
use Rattle.framing.specs.Feed.{is_nothing, after_taking, feed_of}
use Rattle.framing.specs.Run.{Taken}

pub after_taking_zero : (r : FeedResult) → after_taking 0 r ≡ r
unfolding after_taking
after_taking_zero r = simp zero-add

pub after_taking_twice : (m n : ℕ) (r : FeedResult) → after_taking m (after_taking n r) ≡ after_taking (m + n) r
unfolding after_taking
after_taking_twice m n r = simp add_assoc

pub after_taking_one : (n : ℕ) (r : FeedResult) → after_taking 1 (after_taking n r) ≡ after_taking (suc n) r
after_taking_one n r = simp (after_taking_twice, one-add)

nothing_yet : (a : Event) → is_nothing a ≡ true → a ≡ Nothing
nothing_yet Nothing h = refl
nothing_yet (Complete n) h = absurd (true≢false (sym h))
nothing_yet Dropped h = absurd (true≢false (sym h))

pub loud_some : (a : Event) → is_nothing a ≡ false → a ≡ Nothing → ⊥
loud_some a loud e = true≢false (sym (ap is_nothing e) ∙ loud)

-- what holds of a feed's result, by whether the first byte ends a string
pub feed_cases : (P : FeedResult → Type 0) (f : Framer) (b : ℕ) (s : List ℕ)
    → ((step_of f b).event ≡ Nothing → P (after_taking 1 (feed_of (step_of f b).framer s)))
    → (is_nothing (step_of f b).event ≡ false
    → P (record { framer = (step_of f b).framer; event = (step_of f b).event; taken = 1 }))
    → P (feed_of f (b ∷ s))
unfolding feed_of
feed_cases P f b s on stop = go (is_nothing (step_of f b).event) refl
  where
    go : (t : Bool) → is_nothing (step_of f b).event ≡ t
        → P (cond t (after_taking 1 (feed_of (step_of f b).framer s))
        (record { framer = (step_of f b).framer; event = (step_of f b).event; taken = 1 }))
    go true e = on (nothing_yet (step_of f b).event e)
    go false e = stop e

module _ (f g : Framer) (a : Event) (b : ℕ) (s : List ℕ) (step : step_of f b ≡ record { framer = g; event = a }) where
  -- a byte that ends nothing, and the rest
  pub feed_on : is_nothing a ≡ true → feed_of f (b ∷ s) ≡ after_taking 1 (feed_of g s)
  unfolding feed_of
  feed_on quiet = simp (step, quiet)

  -- a byte that ends a string
  pub feed_stop : is_nothing a ≡ false → feed_of f (b ∷ s) ≡ record { framer = g; event = a; taken = 1 }
  unfolding feed_of
  feed_stop loud = simp (step, loud)

-- `&s[i..]`
pub rest : (s : List ℕ) (i : ℕ) → take (length s - i) (drop i s) ≡ drop i s
rest s i = take_all (length s - i) (drop i s) (omega (arith, length-drop i s))

pub taken_none : (f : Framer) (s : List ℕ) → Taken f s f s
taken_none f s = record { within = omega arith; goes = simp (sub_self, after_taking_zero) }

module _ (f : Framer) (s : List ℕ) (g : Framer) where
  -- what is taken of the rest is taken of the whole
  pub taken_more : (t : List ℕ) → Taken f s g t → (h : Framer) (u : List ℕ) → Taken g t h u → Taken f s h u
  taken_more t w h u v =
      let e : (length s - length t) + (length t - length u) ≡ length s - length u = omega (arith, w.within, v.within) in
      record {
        within = omega (arith, w.within, v.within);
        goes = w.goes ∙ ap (after_taking (length s - length t)) v.goes ∙ simp (after_taking_twice, e);
      }

  pub taken_end : (t : List ℕ) → Taken f s g t → length t ≡ 0
      → feed_of f s ≡ record { framer = g; event = Nothing; taken = length s }
  unfolding after_taking feed_of
  taken_end [] w e = w.goes ∙ simp (sub-zero, add-zero)
  taken_end (b ∷ t) w e = absurd (omega arith)

  module _
      (b : ℕ) (t : List ℕ) (w : Taken f s g (b ∷ t)) (h : Framer) (a : Event)
      (step : step_of g b ≡ record { framer = h; event = a })
    where
      pub taken_step : is_nothing a ≡ true → Taken f s h t
      taken_step quiet =
          let e : suc (length t) - length t ≡ 1 = omega arith in
          taken_more (b ∷ t) w h t (record { within = omega arith; goes = rw e (feed_on g h a b t step quiet) })

      pub taken_stop : is_nothing a ≡ false
          → feed_of f s ≡ record { framer = h; event = a; taken = length s - length t }
      unfolding after_taking
      taken_stop loud =
          let e : length s - suc (length t) + 1 ≡ length s - length t = omega (arith, w.within) in
          w.goes ∙ ap (after_taking (length s - suc (length t))) (feed_stop g h a b t step loud) ∙ rw e refl
