-- A string between STX and ETX is found, from any state, or dropped if it is overlong.
use Prim.Native.Nat.{ℕ, ◌+◌, ◌≤◌, ◌<◌}
use native.Mathlib.Omega.{arith}
use native.Mathlib.Numerals.{suc-eq-add-one}
use native.Mathlib.Decide.{dec_lt}
use mathlib.Core.Path.{◌≡◌, refl, sym, ap, ◌∙◌}
use mathlib.Core.Bool.{Bool, true, false, not, ◌&&◌, ◌||◌, true≢false}
use mathlib.Core.List.{List, [], ◌∷◌, ◌++◌}
use lib.Dec.{eqb}
use lib.ListN.{length, take, set, length-set, length-append}
use lib.Seq.{append_snoc, take-suc-set}
use Rattle.framing.specs.declared.Mode.TheVariants.{Outside, Inside, Overlong}
use Rattle.framing.specs.declared.Framer.{Framer}
use Rattle.framing.specs.declared.Event.TheVariants.{Nothing, Complete, Dropped}
use Rattle.framing.specs.declared.FeedResult.{FeedResult}
use Rattle.framing.specs.Step.{framer_of, stx, step_of}
use Rattle.framing.specs.Feed.{after_taking, feed_of}
use Rattle.framing.specs.Framed.{all_plain, Finds, Drops}
use Rattle.framing.proofs.StepLaws.{mode_inside, mode_full, mode_overlong, still_overlong}
use Rattle.framing.proofs.StepLaws.{step_stx, step_etx, step_ends, step_keeps, step_full}
use Rattle.framing.proofs.FeedLaws.{feed_on, feed_stop}
use Rattle.framing.proofs.FramedLaws.{kept_more}

first_plain : (t u : Bool) → not t && u ≡ true → (t ≡ false) × (u ≡ true)
first_plain true u h = absurd (true≢false (sym h))
first_plain false u h = (refl, h)

plain_cons : (b : ℕ) (s : List ℕ) → all_plain (b ∷ s) ≡ true → (eqb b 2 || eqb b 3 ≡ false) × (all_plain s ≡ true)
unfolding all_plain
plain_cons b s h = first_plain (eqb b 2 || eqb b 3) (all_plain s) h

-- inside, with x kept: the rest of the string
record FindsRest (string : List ℕ) (n t : ℕ) (r : FeedResult) : Type 0 where
  pub event : r.event ≡ Complete n
  pub taken : r.taken ≡ t
  pub kept : take n r.framer.bytes ≡ string

module _ (rest : List ℕ) where
  finds_end : (x bytes : List ℕ) (count n : ℕ) → length bytes ≡ 66 → n ≡ count + 1 → n ≤ 66 → take count bytes ≡ x
      → FindsRest (x ++ 3 ∷ []) n 1 (feed_of (framer_of bytes count Inside) (3 ∷ rest))
  finds_end x bytes count n size e few kept =
      rw (feed_stop (framer_of bytes count Inside) (framer_of (set bytes count 3) (count + 1) Outside)
      (Complete (count + 1)) 3 rest (step_ends _ 3 (mode_inside count (omega arith)) refl) refl)
      (record {
        event = ap Complete (sym e);
        taken = refl;
        kept = rw e (kept_more bytes count 3 x (omega arith) kept);
      })

  finds_rest : (body x bytes : List ℕ) (count n : ℕ) → length bytes ≡ 66 → n ≡ count + length body + 1 → n ≤ 66
      → take count bytes ≡ x → all_plain body ≡ true
      → FindsRest (x ++ (body ++ 3 ∷ [])) n (length body + 1)
      (feed_of (framer_of bytes count Inside) (body ++ 3 ∷ rest))
  unfolding after_taking
  finds_rest [] x bytes count n size e few kept plain = finds_end x bytes count n size (omega arith) few kept
  finds_rest (b ∷ body) x bytes count n size e few kept plain =
      let p = plain_cons b body plain in
      let w =
      finds_rest body (x ++ b ∷ []) (set bytes count b) (count + 1) n (simp length-set size) (omega arith) few
      (kept_more bytes count b x (omega arith) kept) p.1 in
      rw (feed_on (framer_of bytes count Inside) (framer_of (set bytes count b) (count + 1) Inside) Nothing b
      (body ++ 3 ∷ rest) (step_keeps bytes count b (omega arith) p.0) refl)
      (record {
        event = w.event;
        taken = omega (arith, w.taken);
        kept = w.kept ∙ append_snoc x b (body ++ 3 ∷ []);
      })

  drops_end : (f : Framer) (bytes : List ℕ) (count : ℕ)
      → step_of f 3 ≡ record { framer = framer_of bytes count Outside; event = Dropped }
      → Drops 1 (feed_of f (3 ∷ rest))
  drops_end f bytes count step =
      rw (feed_stop f (framer_of bytes count Outside) Dropped 3 rest step refl) (record { event = refl; taken = refl })

  drops_more : (f g : Framer) (b n : ℕ) (s : List ℕ) → step_of f b ≡ record { framer = g; event = Nothing }
      → Drops n (feed_of g s) → Drops (n + 1) (feed_of f (b ∷ s))
  unfolding after_taking
  drops_more f g b n s step w =
      rw (feed_on f g Nothing b s step refl) (record { event = w.event; taken = omega (arith, w.taken) })

  drops_overlong : (body bytes : List ℕ) (count : ℕ) → count ≤ 66 → all_plain body ≡ true
      → Drops (length body + 1) (feed_of (framer_of bytes count Overlong) (body ++ 3 ∷ rest))
  drops_overlong [] bytes count few plain =
      drops_end (framer_of bytes count Overlong) bytes count (step_etx _ 3 Overlong (mode_overlong count few) refl)
  drops_overlong (b ∷ body) bytes count few plain =
      let p = plain_cons b body plain in
      rw (suc-eq-add-one (length body))
      (drops_more (framer_of bytes count Overlong) (framer_of bytes count Overlong) b (length body + 1)
      (body ++ 3 ∷ rest) (still_overlong (framer_of bytes count Overlong) refl few b p.0)
      (drops_overlong body bytes count few p.1))

  -- inside with 66 kept
  drops_full : (body bytes : List ℕ) (count : ℕ) → count ≡ 66 → all_plain body ≡ true
      → Drops (length body + 1) (feed_of (framer_of bytes count Inside) (body ++ 3 ∷ rest))
  drops_full [] bytes count e plain =
      rw e
      (drops_end (framer_of bytes 66 Inside) bytes 66
      (step_etx _ 3 Overlong (mode_full 66 (omega arith) (omega arith)) refl))
  drops_full (b ∷ body) bytes count e plain =
      let p = plain_cons b body plain in
      rw (e, suc-eq-add-one (length body))
      (drops_more (framer_of bytes 66 Inside) (framer_of bytes 66 Overlong) b (length body + 1) (body ++ 3 ∷ rest)
      (step_full bytes b p.0) (drops_overlong body bytes 66 (omega arith) p.1))

  drops_rest : (body bytes : List ℕ) (count : ℕ) → count ≤ 66 → 66 ≤ count + length body → all_plain body ≡ true
      → Drops (length body + 1) (feed_of (framer_of bytes count Inside) (body ++ 3 ∷ rest))
  drops_rest [] bytes count few long plain = drops_full [] bytes count (omega arith) plain
  drops_rest (b ∷ body) bytes count few long plain = elim (dec_lt count 66) [
    | no full ↦ drops_full (b ∷ body) bytes count (omega arith) plain
    | yes room ↦
        let p = plain_cons b body plain in
        rw (suc-eq-add-one (length body))
        (drops_more (framer_of bytes count Inside) (framer_of (set bytes count b) (count + 1) Inside) b
        (length body + 1) (body ++ 3 ∷ rest) (step_keeps bytes count b room p.0)
        (drops_rest body (set bytes count b) (count + 1) (omega arith) (omega arith) p.1))
  ]

module _ (f : Framer) (body rest : List ℕ) (size : length f.bytes ≡ 66) (plain : all_plain body ≡ true) where
  -- STX first, from any state
  feed_stx : feed_of f (2 ∷ (body ++ 3 ∷ rest)) ≡ after_taking 1 (feed_of (stx f).framer (body ++ 3 ∷ rest))
  feed_stx = feed_on f (stx f).framer Nothing 2 (body ++ 3 ∷ rest) (step_stx f 2 refl) refl

  pub string_found : length body + 2 ≤ 66 → Finds (2 ∷ body ++ 3 ∷ []) (feed_of f (2 ∷ body ++ 3 ∷ rest))
  unfolding after_taking
  string_found few =
      let n : length (2 ∷ body ++ 3 ∷ []) ≡ 1 + length body + 1 = simp length-append (omega arith) in
      let w =
      finds_rest rest body (2 ∷ []) (set f.bytes 0 2) 1 (length (2 ∷ body ++ 3 ∷ [])) (simp length-set size) n
      (omega arith) (take-suc-set f.bytes 0 2 (omega arith)) plain in
      rw feed_stx (record { event = w.event; taken = omega (arith, w.taken); kept = w.kept })

  pub overlong_dropped : 66 < length body + 2 → Drops (length body + 2) (feed_of f (2 ∷ body ++ 3 ∷ rest))
  unfolding after_taking
  overlong_dropped many =
      let w = drops_rest rest body (set f.bytes 0 2) 1 (omega arith) (omega arith) plain in
      rw feed_stx (record { event = w.event; taken = omega (arith, w.taken) })
