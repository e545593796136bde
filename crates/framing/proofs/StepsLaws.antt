-- The feed as single steps.
use Prim.Native.Nat.{ℕ, zero, suc, ◌+◌, ◌≤◌, ◌<◌, min}
use native.Mathlib.Omega.{arith}
use native.Mathlib.Nat.{suc-min-suc, zero-min, min-zero, min-le_right, le-min}
use native.Mathlib.Numerals.{one-add}
use mathlib.Core.Path.{◌≡◌, refl, sym, ap, ◌∙◌}
use mathlib.Core.Bool.{false}
use mathlib.Core.List.{List, [], ◌∷◌}
use lib.ListN.{length, take}
use Rattle.framing.specs.declared.Framer.{Framer}
use Rattle.framing.specs.declared.Event.{Event}
use Rattle.framing.specs.declared.Event.TheVariants.{Nothing, Complete}
use Rattle.framing.specs.declared.FeedResult.{FeedResult}
use Rattle.framing.specs.Step.{step_of}
use Rattle.framing.specs.Feed.{is_nothing, after_taking, feed_of}
use Rattle.framing.specs.Steps.{steps, event_at, BySteps}
use Rattle.framing.proofs.StepLaws.{nothing_complete, step_complete}
use Rattle.framing.proofs.FeedLaws.{loud_some, feed_cases}

by_steps_none : (f : Framer) (s : List ℕ) (limit : ℕ) → 0 ≡ min limit (length s)
    → BySteps f s limit (record { framer = f; event = Nothing; taken = 0 })
unfolding steps
by_steps_none f s limit e =
    record {
      within = omega (arith, e);
      state = refl;
      quiet = λ i h. absurd (omega arith);
      last = λ i h. absurd (omega arith);
      none = λ z. refl;
      whole = λ z. e;
    }

module _ (f : Framer) (b : ℕ) (s : List ℕ) (limit : ℕ) where
  abbrev g : Framer
  g = (step_of f b).framer

  abbrev a : Event
  a = (step_of f b).event

  by_steps_on : a ≡ Nothing → BySteps g s limit (feed_of g (take limit s))
      → BySteps f (b ∷ s) (suc limit) (after_taking 1 (feed_of g (take limit s)))
  unfolding after_taking steps event_at
  by_steps_on e w =
      record {
        within = simp suc-min-suc (omega arith);
        state = simp one-add w.state;
        quiet = quiet;
        last = last;
        none = λ z. absurd (omega arith);
        whole = λ z. simp (suc-min-suc, one-add) (ap suc (w.whole z));
      }
    where
      quiet : (i : ℕ) → i + 1 < 1 + (feed_of g (take limit s)).taken → event_at f (b ∷ s) i ≡ Nothing
      quiet zero h = e
      quiet (suc i) h = w.quiet i (omega arith)

      last : (i : ℕ) → i + 1 ≡ 1 + (feed_of g (take limit s)).taken
          → event_at f (b ∷ s) i ≡ (feed_of g (take limit s)).event
      last zero h = e ∙ sym (w.none (omega arith))
      last (suc i) h = w.last i (omega arith)

  by_steps_stop : is_nothing a ≡ false → BySteps f (b ∷ s) (suc limit) (record { framer = g; event = a; taken = 1 })
  unfolding steps event_at
  by_steps_stop loud =
      record {
        within = simp suc-min-suc (omega arith);
        state = refl;
        quiet = λ i h. absurd (omega arith);
        last = last;
        none = λ z. absurd (omega arith);
        whole = λ z. absurd (loud_some a loud z);
      }
    where
      last : (i : ℕ) → i + 1 ≡ 1 → event_at f (b ∷ s) i ≡ a
      last zero h = refl
      last (suc i) h = absurd (omega arith)

pub by_steps : (f : Framer) (s : List ℕ) (limit : ℕ) → BySteps f s limit (feed_of f (take limit s))
unfolding feed_of
by_steps f s zero = by_steps_none f s zero (simp zero-min)
by_steps f [] (suc limit) = by_steps_none f [] (suc limit) (simp min-zero)
by_steps f (b ∷ s) (suc limit) =
    feed_cases (BySteps f (b ∷ s) (suc limit)) f b (take limit s)
    (λ quiet. by_steps_on f b s limit quiet (by_steps (step_of f b).framer s limit))
    (by_steps_stop f b s limit)

-- no more is taken than there is, and something if there is something
pub feed_taken : (f : Framer) (s : List ℕ) (limit : ℕ) → ((feed_of f (take limit s)).taken ≤ length s)
    × (0 < limit → 0 < length s → 0 < (feed_of f (take limit s)).taken)
feed_taken f s limit =
    (omega (arith, w.within, min-le_right limit (length s)), λ p q. go r.taken refl (le-min p q))
  where
    r : FeedResult
    r = feed_of f (take limit s)

    w : BySteps f s limit r
    w = by_steps f s limit

    go : (t : ℕ) → r.taken ≡ t → 1 ≤ min limit (length s) → 0 < r.taken
    go zero e h = omega (arith, w.whole (w.none e))
    go (suc t) e h = omega arith

-- a complete string has 1 to 66 bytes, from any state
pub feed_complete : (f : Framer) (s : List ℕ) (n : ℕ) → (feed_of f s).event ≡ Complete n → (1 ≤ n) × (n ≤ 66)
unfolding feed_of after_taking
feed_complete f [] n = nothing_complete
feed_complete f (b ∷ s) n =
    feed_cases (λ r. r.event ≡ Complete n → (1 ≤ n) × (n ≤ 66)) f b s
    (λ quiet. feed_complete (step_of f b).framer s n) (λ loud. step_complete f b n)
