-- The feed over a list of bytes: single steps up to the first string, complete or dropped.
use Rattle.std.specs.Prelude.{ℕ, ◌+◌, Bool, true, false, cond, List, [], ◌∷◌}
use Rattle.framing.specs.declared.Framer.{Framer}
use Rattle.framing.specs.declared.Event.{Event}
use Rattle.framing.specs.declared.Event.TheVariants.{Nothing, Complete, Dropped}
use Rattle.framing.specs.declared.FeedResult.{FeedResult}
use Rattle.framing.specs.Step.{step_of}

-- whether no string has ended
abbrev pub is_nothing : Event → Bool
is_nothing Nothing = true
is_nothing (Complete n) = false
is_nothing Dropped = false

-- the result of a feed that first took n bytes, which ended nothing
unfoldable pub after_taking : ℕ → FeedResult → FeedResult
after_taking n r = record { framer = r.framer; event = r.event; taken = n + r.taken }

-- "the feed stops after an allowance of bytes that the caller names, at the slice's end, or just after the first
-- string, complete or dropped. It returns the number of bytes taken, which is the number of single steps." (01, The
-- serial feed): the allowance is called `limit`, and the list holds no more bytes than that
unfoldable pub feed_of : Framer → List ℕ → FeedResult
feed_of f [] = record { framer = f; event = Nothing; taken = 0 }
feed_of f (b ∷ s) =
    cond (is_nothing (step_of f b).event)
    (after_taking 1 (feed_of (step_of f b).framer s))
    (record { framer = (step_of f b).framer; event = (step_of f b).event; taken = 1 })
