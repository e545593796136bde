-- The state after any run of bytes holds the bytes of the string that it is inside, or that is complete.
use Prim.Native.Nat.{ℕ, zero, suc, ◌+◌, ◌<◌}
use native.Mathlib.Omega.{arith}
use native.Mathlib.Nat.{min-le_right}
use native.Mathlib.Numerals.{add-one}
use mathlib.Core.Path.{◌≡◌, refl, sym, ap, ◌∙◌}
use mathlib.Core.Bool.{Bool, false, not, ◌&&◌, ◌||◌}
use mathlib.Core.List.{List, [], ◌∷◌, ◌++◌, append_assoc, append-nil}
use lib.Dec.{eqb}
use lib.ListN.{length, get_or, take, set, length-set}
use lib.Seq.{append_snoc, take-suc, take-suc-set, length-take-le}
use Rattle.framing.specs.declared.Mode.{Mode}
use Rattle.framing.specs.declared.Mode.TheVariants.{Outside, Inside, Overlong}
use Rattle.framing.specs.declared.Framer.{Framer}
use Rattle.framing.specs.declared.Event.TheVariants.{Complete}
use Rattle.framing.specs.Step.{start, effective_mode, etx_at, plain_at, stx, step_of}
use Rattle.framing.specs.Feed.{feed_of}
use Rattle.framing.specs.Steps.{steps, event_at}
use Rattle.framing.specs.Framed.{all_plain, Reached, Framed}
use Rattle.framing.proofs.StepLaws.{nothing_complete, dropped_complete, inside_mode, inside_not_outside}
use Rattle.framing.proofs.StepLaws.{step_cases}
use Rattle.framing.proofs.StepsLaws.{by_steps}

plain_snoc : (s : List ℕ) (b : ℕ) → eqb b 2 || eqb b 3 ≡ false → all_plain (s ++ b ∷ []) ≡ all_plain s
unfolding all_plain
plain_snoc [] b h = simp h
plain_snoc (a ∷ s) b h = ap (λ (t : Bool). not (eqb a 2 || eqb a 3) && t) (plain_snoc s b h)

-- one more byte is kept
pub kept_more : (bytes : List ℕ) (count b : ℕ) (x : List ℕ) → count < length bytes → take count bytes ≡ x
    → take (count + 1) (set bytes count b) ≡ x ++ b ∷ []
kept_more bytes count b x room e =
    rw (add-one, take-suc-set bytes count b room) (ap (λ (l : List ℕ). l ++ b ∷ []) e)

outside_inside : {A : Type 0} → Outside ≡ Inside → A
outside_inside e = absurd cc

overlong_inside : {A : Type 0} → Overlong ≡ Inside → A
overlong_inside e = absurd cc

module _ (p : List ℕ) (f : Framer) (b : ℕ) (w : Reached p f) where
  reached_stx : b ≡ 2 → Reached (p ++ b ∷ []) (stx f).framer
  unfolding all_plain
  reached_stx e =
      record {
        size = simp length-set w.size;
        few = omega arith;
        inside = λ m. record {
          before = p;
          body = [];
          ends = simp e;
          kept = take-suc-set f.bytes 0 2 (omega (arith, w.size));
          plain = refl;
        };
      }

  reached_outside : effective_mode f.count f.mode ≡ Outside → Reached (p ++ b ∷ []) f
  reached_outside at =
      record {
        size = w.size;
        few = w.few;
        inside = λ m. absurd (inside_not_outside f.count w.few (rw m at at));
      }

  reached_etx : b ≡ 3 → (m : Mode) → effective_mode f.count f.mode ≡ m → Reached (p ++ b ∷ []) (etx_at m f).framer
  reached_etx e Outside at = reached_outside at
  reached_etx e Inside at =
      let room = (inside_mode f.count f.mode at).1 in
      record { size = simp length-set w.size; few = omega arith; inside = outside_inside }
  reached_etx e Overlong at = record { size = w.size; few = w.few; inside = outside_inside }

  reached_plain : eqb b 2 || eqb b 3 ≡ false → (m : Mode) → effective_mode f.count f.mode ≡ m
      → Reached (p ++ b ∷ []) (plain_at m f b).framer
  reached_plain h Outside at = reached_outside at
  reached_plain h Inside at =
      let at_inside = inside_mode f.count f.mode at in
      let o = w.inside at_inside.0 in
      record {
        size = simp length-set w.size;
        few = omega arith;
        inside = λ m. record {
          before = o.before;
          body = o.body ++ b ∷ [];
          ends = ap (λ (l : List ℕ). l ++ b ∷ []) o.ends ∙ simp append_assoc;
          kept = kept_more f.bytes f.count b (2 ∷ o.body) (omega (arith, w.size)) o.kept;
          plain = plain_snoc o.body b h ∙ o.plain;
        };
      }
  reached_plain h Overlong at = record { size = w.size; few = w.few; inside = overlong_inside }

  pub reached_step : Reached (p ++ b ∷ []) (step_of f b).framer
  reached_step =
      step_cases (λ r. Reached (p ++ b ∷ []) r.framer) f b reached_stx reached_etx reached_plain

  framed_etx : (n : ℕ) → b ≡ 3 → (m : Mode) → effective_mode f.count f.mode ≡ m → (etx_at m f).event ≡ Complete n
      → Framed (p ++ b ∷ []) (etx_at m f).framer n
  framed_etx n e Outside at h = nothing_complete h
  framed_etx n e Inside at h =
      let at_inside = inside_mode f.count f.mode at in
      let o = w.inside at_inside.0 in
      let q : f.count + 1 ≡ n = cc in
      record {
        before = o.before;
        body = o.body;
        ends = ap (λ (l : List ℕ). l ++ b ∷ []) o.ends ∙ simp (append_assoc, e);
        string = rw (← q) (kept_more f.bytes f.count 3 (2 ∷ o.body) (omega (arith, w.size)) o.kept);
        plain = o.plain;
        counted = omega (arith, q, ap length o.kept, length-take-le f.count f.bytes (omega (arith, w.size)));
        few = omega (arith, q);
      }
  framed_etx n e Overlong at h = dropped_complete h

  pub complete_framed : (n : ℕ) → (step_of f b).event ≡ Complete n → Framed (p ++ b ∷ []) (step_of f b).framer n
  complete_framed n =
      step_cases (λ r. r.event ≡ Complete n → Framed (p ++ b ∷ []) r.framer n) f b (λ e. nothing_complete)
      (framed_etx n) plain
    where
      plain : eqb b 2 || eqb b 3 ≡ false → (m : Mode) → effective_mode f.count f.mode ≡ m
          → (plain_at m f b).event ≡ Complete n → Framed (p ++ b ∷ []) (plain_at m f b).framer n
      plain h Outside at = nothing_complete
      plain h Inside at = nothing_complete
      plain h Overlong at = nothing_complete

pub reached_steps : (p s : List ℕ) (f : Framer) → Reached p f → Reached (p ++ s) (steps f s)
unfolding steps
reached_steps p [] f w = simp append-nil w
reached_steps p (b ∷ s) f w =
    simp append_snoc at (reached_steps (p ++ b ∷ []) s (step_of f b).framer (reached_step p f b w))

pub reached_start : Reached [] start
reached_start = record { size = refl; few = omega arith; inside = outside_inside }

steps_snoc : (f : Framer) (s : List ℕ) (b : ℕ) → steps f (s ++ b ∷ []) ≡ (step_of (steps f s) b).framer
unfolding steps
steps_snoc f [] b = refl
steps_snoc f (a ∷ s) b = steps_snoc (step_of f a).framer s b

module _ (p s : List ℕ) (limit : ℕ) (f : Framer) (w : Reached p f) where
  pub reached_feed :
      Reached (p ++ take (feed_of f (take limit s)).taken s) (feed_of f (take limit s)).framer
  reached_feed =
      rw (by_steps f s limit).state (reached_steps p (take (feed_of f (take limit s)).taken s) f w)

  pub framed_feed : (n : ℕ) → (feed_of f (take limit s)).event ≡ Complete n
      → Framed (p ++ take (feed_of f (take limit s)).taken s) (feed_of f (take limit s)).framer n
  unfolding event_at
  framed_feed n h =
      rw (by_steps f s limit).state (go (feed_of f (take limit s)).taken refl)
    where
      go : (t : ℕ) → (feed_of f (take limit s)).taken ≡ t → Framed (p ++ take t s) (steps f (take t s)) n
      go zero e = nothing_complete (sym ((by_steps f s limit).none e) ∙ h)
      go (suc i) e =
          let q : i < length s = omega (arith, (by_steps f s limit).within, min-le_right limit (length s)) in
          rw (take-suc s i 0, steps_snoc f (take i s) (get_or s i 0), ← append_assoc)
          (complete_framed (p ++ take i s) (steps f (take i s)) (get_or s i 0) (reached_steps p (take i s) f w) n
          ((by_steps f s limit).last i (omega arith) ∙ h))
