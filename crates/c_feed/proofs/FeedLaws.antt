-- Laws of the feed's state and event as C has them: they fit bytes, and what is stored is the state.
use Prim.Native.Nat.{ℕ, suc, ◌<◌, ◌≤◌}
use native.Mathlib.Omega.{arith}
use mathlib.Core.Path.{◌≡◌, refl, sym, ap, subst, ◌∙◌}
use mathlib.Core.Bool.{Bool, true, false, cond, ◌||◌}
use mathlib.Core.List.{List, [], ◌∷◌, ◌++◌, append_assoc}
use lib.Dec.{eqb, ltb}
use lib.ListN.{length, get_or, take, drop, set, length-append, length-set}
use lib.Seq.{append_snoc, drop-cons, set_at}
use borrow.Author.Tests.{le-ltb}
use Rattle.framing.specs.declared.Mode.{Mode}
use Rattle.framing.specs.declared.Mode.TheVariants.{Outside, Inside, Overlong}
use Rattle.framing.specs.declared.Framer.{Framer}
use Rattle.framing.specs.declared.Event.{Event}
use Rattle.framing.specs.declared.Event.TheVariants.{Nothing}
use Rattle.framing.specs.declared.FeedResult.{FeedResult}
use Rattle.framing.specs.Step.{effective_mode, etx_at, plain_at, step_of}
use Rattle.framing.specs.Feed.{is_nothing, after_taking, feed_of}
use Rattle.framing.proofs.StepLaws.{inside_room, step_cases}
use Rattle.clock_time.specs.Errors.{Answer, accepted, refused, given, checked}
use Rattle.clock_time.specs.Exit.{Exit, exit, leaves}
use Rattle.c_feed.specs.declared.Fed.{Fed}
use Rattle.c_feed.specs.Feed.{mode_number, framer_in, state_bytes, event_number}
use Rattle.c_feed.specs.Feed.{FeedMemory, feed_memory, feed_into, feed_state}

-- ---- what every step keeps, a feed keeps
module _
    (P : Framer → Event → Type 0)
    (state : (f : Framer) (a : Event) → P f a → P f Nothing)
    (step : (f : Framer) (b : ℕ) → P f Nothing → P (step_of f b).framer (step_of f b).event)
  where
    feed_keeps : (s : List ℕ) (f : Framer) → P f Nothing → P (feed_of f s).framer (feed_of f s).event
    unfolding feed_of after_taking
    feed_keeps [] f h = h
    feed_keeps (b ∷ s) f h =
        let w = step f b h in
        go (is_nothing (step_of f b).event) w (feed_keeps s (step_of f b).framer (state _ _ w))
      where
        all : Bool → FeedResult
        all t =
            cond t (after_taking 1 (feed_of (step_of f b).framer s))
            (record { framer = (step_of f b).framer; event = (step_of f b).event; taken = 1 })

        go : (t : Bool) → P (step_of f b).framer (step_of f b).event
            → P (feed_of (step_of f b).framer s).framer (feed_of (step_of f b).framer s).event
            → P (all t).framer (all t).event
        go true one more = more
        go false one more = one

-- ---- a count and an event fit bytes
abbrev Small : Framer → Event → Type 0
Small f a = (f.count ≤ 255) × (event_number a ≤ 255)

step_small : (f : Framer) (b : ℕ) → Small f Nothing → Small (step_of f b).framer (step_of f b).event
step_small f b h = step_cases (λ r. Small r.framer r.event) f b (λ e. (omega arith, omega arith)) etx plain
  where
    etx : b ≡ 3 → (m : Mode) → effective_mode f.count f.mode ≡ m → Small (etx_at m f).framer (etx_at m f).event
    etx e Outside at = h
    etx e Inside at = let room = inside_room f.count f.mode at in (omega arith, omega arith)
    etx e Overlong at = (h.0, omega arith)

    plain : eqb b 2 || eqb b 3 ≡ false → (m : Mode) → effective_mode f.count f.mode ≡ m
        → Small (plain_at m f b).framer (plain_at m f b).event
    plain e Outside at = h
    plain e Inside at = let room = inside_room f.count f.mode at in (omega arith, omega arith)
    plain e Overlong at = h

feed_small : (s : List ℕ) (f : Framer) → f.count ≤ 255 → Small (feed_of f s).framer (feed_of f s).event
feed_small s f h = feed_keeps Small (λ f a w. (w.0, omega arith)) step_small s f (h, omega arith)

-- ---- 66 bytes stay 66
abbrev Whole : Framer → Event → Type 0
Whole f a = length f.bytes ≡ 66

step_whole : (f : Framer) (b : ℕ) → length f.bytes ≡ 66 → length (step_of f b).framer.bytes ≡ 66
step_whole f b h = step_cases (λ r. length r.framer.bytes ≡ 66) f b (λ e. simp length-set h) etx plain
  where
    etx : b ≡ 3 → (m : Mode) → effective_mode f.count f.mode ≡ m → length (etx_at m f).framer.bytes ≡ 66
    etx e Outside at = h
    etx e Inside at = simp length-set h
    etx e Overlong at = h

    plain : eqb b 2 || eqb b 3 ≡ false → (m : Mode) → effective_mode f.count f.mode ≡ m
        → length (plain_at m f b).framer.bytes ≡ 66
    plain e Outside at = h
    plain e Inside at = simp length-set h
    plain e Overlong at = h

pub feed_whole : (s : List ℕ) (f : Framer) → length f.bytes ≡ 66 → length (feed_of f s).framer.bytes ≡ 66
feed_whole = feed_keeps Whole (λ f a w. w) step_whole

pub fed_small : (state : List ℕ) (f : Framer) (s : List ℕ) (r : FeedResult) → get_or state 66 0 < 256
    → f ≡ framer_in state → r ≡ feed_of f s → (r.framer.count ≤ 255) × (event_number r.event ≤ 255)
unfolding framer_in
fed_small state f s r h e k =
    subst (λ (x : FeedResult). Small x.framer x.event) (sym k) (feed_small s f (rw e (omega arith)))

-- ---- what is stored
two_after : (n : ℕ) (bytes d : List ℕ) (x y : ℕ) → length bytes ≡ n → suc n < length d
    → set (set (bytes ++ drop n d) n x) (suc n) y ≡ (bytes ++ x ∷ y ∷ []) ++ drop (suc (suc n)) d
two_after n bytes d x y long room =
    rw (drop-cons d n 0 (omega arith), drop-cons d (suc n) 0 room)
    (ap (λ (l : List ℕ). set l (suc n) y)
    (set_at bytes (get_or d n 0) rest x n long ∙ sym (append_snoc bytes x rest))
    ∙ set_at (bytes ++ x ∷ []) (get_or d (suc n) 0) (drop (suc (suc n)) d) y (suc n) (simp length-append (omega arith))
    ∙ simp append_assoc)
  where
    rest : List ℕ
    rest = get_or d (suc n) 0 ∷ drop (suc (suc n)) d

pub store_after : (f : Framer) (d x : List ℕ) → length f.bytes ≡ 66 → 68 ≤ length d
    → x ≡ f.bytes ++ drop (length f.bytes) d
    → set (set x 66 f.count) 67 (mode_number f.mode) ≡ state_bytes f ++ drop 68 d
unfolding state_bytes
store_after f d x long room e = rw (e, long) (two_after 66 f.bytes d f.count (mode_number f.mode) long room)

-- ---- the call
-- what is left, without the pointers and with them
pub feed_done : (state : List ℕ) (f : Framer) (s : List ℕ) (limit : ℕ) (r : FeedResult) (x : List ℕ) (k : ℕ)
    → 68 ≤ length state → f ≡ framer_in state → r ≡ feed_of f (take limit s)
    → x ≡ state_bytes r.framer ++ drop 68 state → k ≡ event_number r.event
    → exit (accepted (record { taken = r.taken; event = k })) x ≡ feed_state state s limit
unfolding feed_state
feed_done state f s limit r x k room e q p h = simp (le-ltb _ _ room, ← e, ← q, p, h)

-- and what the code leaves behind the pointers of what was answered
abbrev pub behind_pointers : ℕ → ℕ → Answer Fed → List ℕ → Exit (Unit {0}) FeedMemory
behind_pointers taken event (accepted fed) x = exit (accepted tt) (feed_memory x fed.taken fed.event)
behind_pointers taken event (refused k) x = exit (refused k) (feed_memory x taken event)

pub feed_behind : (state : List ℕ) (taken event : ℕ) (s : List ℕ) (limit : ℕ) (a : Answer Fed) (x : List ℕ)
    → exit a x ≡ feed_state state s limit
    → behind_pointers taken event a x ≡ feed_into (feed_memory state taken event) s limit
unfolding feed_state feed_into
feed_behind state taken event s limit a x h =
    let fed = feed_of (framer_in state) (take limit s) in
    ap (λ (e : Exit Fed (List ℕ)). behind_pointers taken event e.answer e.memory) h
    ∙ go (ltb (length state) 68) (state_bytes fed.framer ++ drop 68 state)
    (record { taken = fed.taken; event = event_number fed.event })
  where
    go : (few : Bool) (new : List ℕ) (fed : Fed)
        → let left = leaves state new (checked (given 20 few ∷ []) fed) in
        behind_pointers taken event left.answer left.memory
        ≡ leaves (feed_memory state taken event) (feed_memory new fed.taken fed.event)
        (checked (given 20 few ∷ []) tt)
    go true new fed = refl
    go false new fed = refl
