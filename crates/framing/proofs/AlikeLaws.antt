-- The bytes past the kept ones change nothing: two states that differ there only are fed alike.
use Prim.Native.Nat.{ℕ, ◌+◌, ◌≤◌, ◌<◌}
use native.Mathlib.Omega.{arith}
use mathlib.Core.Path.{◌≡◌, refl, sym, ap, ◌∙◌}
use mathlib.Core.Bool.{Bool, true, false, cond}
use mathlib.Core.List.{List, [], ◌∷◌}
use lib.Dec.{eqb}
use lib.ListN.{length, take, set, length-set}
use lib.Seq.{take-suc-set}
use Rattle.framing.specs.declared.Mode.{Mode}
use Rattle.framing.specs.declared.Mode.TheVariants.{Outside, Inside, Overlong}
use Rattle.framing.specs.declared.Framer.{Framer}
use Rattle.framing.specs.declared.StepResult.{StepResult}
use Rattle.framing.specs.declared.FeedResult.{FeedResult}
use Rattle.framing.specs.Step.{framer_of, effective_mode, etx_at, plain_at, stx, step_of}
use Rattle.framing.specs.Feed.{is_nothing, after_taking, feed_of}
use Rattle.framing.specs.Steps.{Alike}
use Rattle.framing.proofs.StepLaws.{inside_room}
use Rattle.framing.proofs.FeedLaws.{feed_cases, feed_on, feed_stop}
use Rattle.framing.proofs.FramedLaws.{kept_more}

-- the state f with other bytes
abbrev other : Framer → List ℕ → Framer
other f y = framer_of y f.count f.mode

record Twins (f : Framer) (y : List ℕ) : Type 0 where
  pub size : length f.bytes ≡ 66
  pub size_other : length y ≡ 66
  pub few : f.count ≤ 66
  pub kept : take f.count f.bytes ≡ take f.count y

record TwinSteps (q r : StepResult) : Type 0 where
  pub bytes : List ℕ
  pub same : r ≡ record { framer = other q.framer bytes; event = q.event }
  pub twins : Twins q.framer bytes

record TwinFeeds (q r : FeedResult) : Type 0 where
  pub bytes : List ℕ
  pub same : r ≡ record { framer = other q.framer bytes; event = q.event; taken = q.taken }
  pub twins : Twins q.framer bytes

first_kept : (x : List ℕ) → length x ≡ 66 → take 1 (set x 0 2) ≡ 2 ∷ []
first_kept x size = take-suc-set x 0 2 (omega arith)

twins_stx : (f : Framer) (y : List ℕ) → length f.bytes ≡ 66 → length y ≡ 66
    → Twins (stx f).framer (set y 0 2)
twins_stx f y p q =
    record {
      size = simp length-set p;
      size_other = simp length-set q;
      few = omega arith;
      kept = first_kept f.bytes p ∙ sym (first_kept y q);
    }

module _ (f : Framer) (y : List ℕ) (w : Twins f y) where
  twins_keep : (b : ℕ) (mode : Mode) → f.count < 66
      → Twins (framer_of (set f.bytes f.count b) (f.count + 1) mode) (set y f.count b)
  twins_keep b mode room =
      record {
        size = simp length-set w.size;
        size_other = simp length-set w.size_other;
        few = omega arith;
        kept =
            kept_more f.bytes f.count b (take f.count y) (omega (arith, w.size)) w.kept
            ∙ sym (kept_more y f.count b (take f.count y) (omega (arith, w.size_other)) refl);
      }

  twins_mode : (mode : Mode) → Twins (framer_of f.bytes f.count mode) y
  twins_mode mode = record { size = w.size; size_other = w.size_other; few = w.few; kept = w.kept }

  twins_at : (b : ℕ) (t u : Bool) (m : Mode) → effective_mode f.count f.mode ≡ m
      → TwinSteps (cond t (stx f) (cond u (etx_at m f) (plain_at m f b)))
      (cond t (stx (other f y)) (cond u (etx_at m (other f y)) (plain_at m (other f y) b)))
  twins_at b true u m at =
      record { bytes = set y 0 2; same = refl; twins = twins_stx f y w.size w.size_other }
  twins_at b false true Outside at = record { bytes = y; same = refl; twins = w }
  twins_at b false false Outside at = record { bytes = y; same = refl; twins = w }
  twins_at b false true Inside at =
      record { bytes = set y f.count 3; same = refl; twins = twins_keep 3 Outside (inside_room _ _ at) }
  twins_at b false false Inside at =
      record { bytes = set y f.count b; same = refl; twins = twins_keep b Inside (inside_room _ _ at) }
  twins_at b false true Overlong at = record { bytes = y; same = refl; twins = twins_mode Outside }
  twins_at b false false Overlong at = record { bytes = y; same = refl; twins = twins_mode Overlong }

  twins_step : (b : ℕ) → TwinSteps (step_of f b) (step_of (other f y) b)
  unfolding step_of
  twins_step b = twins_at b (eqb b 2) (eqb b 3) (effective_mode f.count f.mode) refl

twins_feed : (s : List ℕ) (f : Framer) (y : List ℕ) → Twins f y → TwinFeeds (feed_of f s) (feed_of (other f y) s)
unfolding feed_of after_taking
twins_feed [] f y w = record { bytes = y; same = refl; twins = w }
twins_feed (b ∷ s) f y w =
    let st = twins_step f y w b in
    let g = other (step_of f b).framer st.bytes in
    feed_cases (λ q. TwinFeeds q (feed_of (other f y) (b ∷ s))) f b s
    (λ quiet.
    let ih = twins_feed s (step_of f b).framer st.bytes st.twins in
    record {
      bytes = ih.bytes;
      same =
          feed_on (other f y) g (step_of f b).event b s st.same (ap is_nothing quiet) ∙ ap (after_taking 1) ih.same;
      twins = ih.twins;
    })
    (λ loud.
    record {
      bytes = st.bytes;
      same = feed_stop (other f y) g (step_of f b).event b s st.same loud;
      twins = st.twins;
    })

-- fed STX and then s, any two states answer alike
pub alike_stx : (f g : Framer) (s : List ℕ) → length f.bytes ≡ 66 → length g.bytes ≡ 66
    → Alike (feed_of f (2 ∷ s)) (feed_of g (2 ∷ s))
unfolding feed_of after_taking step_of
alike_stx f g s p q =
    let t = twins_feed s (stx f).framer (set g.bytes 0 2) (twins_stx f g.bytes p q) in
    record {
      event = sym (ap (λ (r : FeedResult). r.event) t.same);
      taken = sym (ap (λ (r : FeedResult). 1 + r.taken) t.same);
      count = sym (ap (λ (r : FeedResult). r.framer.count) t.same);
      mode = sym (ap (λ (r : FeedResult). r.framer.mode) t.same);
      kept = t.twins.kept ∙ sym (ap (λ (r : FeedResult). take r.framer.count r.framer.bytes) t.same);
    }
