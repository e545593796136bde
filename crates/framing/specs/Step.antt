-- The single step of the serial feed, which the code calls `Framer`, on any state, also one that no run of the feed
-- gives.
use Rattle.std.specs.Prelude.{ℕ, ◌+◌, Bool, true, false, cond, List, eqb, ltb, set, replicate}
use Rattle.framing.specs.declared.Mode.{Mode}
use Rattle.framing.specs.declared.Mode.TheVariants.{Outside, Inside, Overlong}
use Rattle.framing.specs.declared.Event.TheVariants.{Nothing, Complete, Dropped}
use Rattle.framing.specs.declared.Framer.{Framer}
use Rattle.framing.specs.declared.StepResult.{StepResult}

-- a state from its parts
abbrev pub framer_of : List ℕ → ℕ → Mode → Framer
framer_of bytes count mode = record { bytes = bytes; count = count; mode = mode }

-- before the first byte: outside a string, with nothing kept
abbrev pub start : Framer
start = framer_of (replicate 66 0) 0 Outside

-- "bytes are kept up to 66" (01, The serial feed): the mode by whether there is room for a byte; inside a string
-- without room it is overlong, and the other modes stay
abbrev pub when_inside : Mode → Bool → Mode
when_inside Outside room = Outside
when_inside Inside true = Inside
when_inside Inside false = Overlong
when_inside Overlong room = Overlong

-- "A state that says more than 66 kept counts as outside a string." (01, The serial feed): the mode by which a byte
-- other than STX goes
unfoldable pub effective_mode : ℕ → Mode → Mode
effective_mode count mode = cond (ltb 66 count) Outside (when_inside mode (ltb count 66))

-- the state in another mode
abbrev pub in_mode : Framer → Mode → Framer
in_mode f mode = framer_of f.bytes f.count mode

-- "Inside, bytes are kept" (01, The serial feed)
abbrev pub keeping : Framer → ℕ → Framer
keeping f b = framer_of (set f.bytes f.count b) (f.count + 1) Inside

-- "ETX ends a kept string (n counts STX and ETX; the state's first n bytes are then the string) or drops an overlong
-- one, and the state is then outside; outside it does nothing. If 66 are kept and ETX comes, the string is dropped."
-- (01, The serial feed)
abbrev pub etx_at : Mode → Framer → StepResult
etx_at Outside f = record { framer = f; event = Nothing }
etx_at Inside f = record { framer = in_mode (keeping f 3) Outside; event = Complete (f.count + 1) }
etx_at Overlong f = record { framer = in_mode f Outside; event = Dropped }

-- "Inside, bytes are kept up to 66, STX among them; a further byte that is not STX makes the string overlong until the
-- next STX or ETX." (01, The serial feed)
abbrev pub plain_at : Mode → Framer → ℕ → StepResult
plain_at Outside f b = record { framer = f; event = Nothing }
plain_at Inside f b = record { framer = keeping f b; event = Nothing }
plain_at Overlong f b = record { framer = in_mode f Overlong; event = Nothing }

-- "STX always starts afresh and answers nothing yet, whatever came before." (01, The serial feed)
abbrev pub stx : Framer → StepResult
stx f = record { framer = framer_of (set f.bytes 0 2) 1 Inside; event = Nothing }

-- "The feed's state goes in and is handed back with each byte. It answers nothing yet, a complete string of n bytes, or
-- an overlong string dropped." (01, The serial feed) "STX is 2, ETX is 3." (01, Meinberg and ELV strings)
unfoldable pub step_of : Framer → ℕ → StepResult
step_of f b =
    cond (eqb b 2) (stx f)
    (cond (eqb b 3) (etx_at (effective_mode f.count f.mode) f) (plain_at (effective_mode f.count f.mode) f b))
