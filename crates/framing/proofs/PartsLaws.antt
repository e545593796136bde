-- Lists fed in two parts.
use Prim.Native.Nat.{ℕ, suc}
use mathlib.Core.Path.{◌≡◌, refl, sym, ap, ◌∙◌}
use mathlib.Core.Bool.{false, true≢false}
use mathlib.Core.List.{List, [], ◌∷◌, ◌++◌}
use lib.ListN.{length}
use Rattle.framing.specs.declared.Framer.{Framer}
use Rattle.framing.specs.declared.Event.TheVariants.{Nothing}
use Rattle.framing.specs.Step.{step_of}
use Rattle.framing.specs.Feed.{is_nothing, after_taking, feed_of}
use Rattle.framing.proofs.FeedLaws.{loud_some, after_taking_zero, after_taking_one, feed_on, feed_cases}

feed_first : (f : Framer) (b : ℕ) (s : List ℕ) → (step_of f b).event ≡ Nothing
    → feed_of f (b ∷ s) ≡ after_taking 1 (feed_of (step_of f b).framer s)
feed_first f b s quiet = feed_on f (step_of f b).framer (step_of f b).event b s refl (ap is_nothing quiet)

-- no event in the first part
pub feed_append : (f : Framer) (s t : List ℕ) → (feed_of f s).event ≡ Nothing
    → feed_of f (s ++ t) ≡ after_taking (length s) (feed_of (feed_of f s).framer t)
unfolding feed_of after_taking
feed_append f [] t h = sym (after_taking_zero (feed_of f t))
feed_append f (b ∷ s) t h =
    feed_cases
    (λ r. r.event ≡ Nothing → feed_of f (b ∷ s ++ t) ≡ after_taking (suc (length s)) (feed_of r.framer t))
    f b s
    (λ quiet e.
    feed_first f b (s ++ t) quiet ∙ ap (after_taking 1) (feed_append (step_of f b).framer s t e)
    ∙ after_taking_one (length s) (feed_of (feed_of (step_of f b).framer s).framer t))
    (λ loud e. absurd (loud_some (step_of f b).event loud e))
    h

-- an event in the first part
pub feed_append_stop : (f : Framer) (s t : List ℕ) → is_nothing (feed_of f s).event ≡ false
    → feed_of f (s ++ t) ≡ feed_of f s
unfolding feed_of after_taking
feed_append_stop f [] t h = absurd (true≢false h)
feed_append_stop f (b ∷ s) t h =
    feed_cases
    (λ r. is_nothing r.event ≡ false → feed_of f (b ∷ s ++ t) ≡ r)
    f b s
    (λ quiet e. feed_first f b (s ++ t) quiet ∙ ap (after_taking 1) (feed_append_stop (step_of f b).framer s t e))
    (λ loud e. simp loud)
    h
