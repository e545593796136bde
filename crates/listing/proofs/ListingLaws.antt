-- Laws of the listing over lists of bytes.
use Rattle.std.proofs.Common.{◌≡◌, ℕ, suc, ◌+◌, ◌-◌, ◌<◌, ◌≤◌, List, [], ◌∷◌, ◌++◌, length, take, drop, sym, refl, ap, ◌∙◌, append_assoc, append-nil, suc-add, one-add, le-ltb, lt-ltb}
use native.Mathlib.Nat.{sub-zero}
use Rattle.framing.specs.declared.Event.TheVariants.{Nothing}
use Rattle.framing.specs.declared.FeedResult.{FeedResult}
use Rattle.framing.specs.Step.{step_of}
use Rattle.framing.specs.Feed.{after_taking, feed_of}
use Rattle.framing.proofs.FeedLaws.{feed_cases}
use Rattle.listing.specs.declared.Listing.{Listing}
use Rattle.listing.specs.Items.{Item, item_of, item_line, counted}
use Rattle.listing.specs.Listing.{item_at, step_listing, after, text_of, taken_of}

pub after_append : (l : Listing) (s t : List ℕ) → after l (s ++ t) ≡ after (after l s) t
unfolding after
after_append l [] t = refl
after_append l (b ∷ s) t = after_append (step_listing l b) s t

pub text_append : (l : Listing) (s t : List ℕ) → text_of l (s ++ t) ≡ text_of l s ++ text_of (after l s) t
unfolding after text_of
text_append l [] t = refl
text_append l (b ∷ s) t =
    ap (λ (x : List ℕ). item_line (item_at l b) ++ x) (text_append (step_listing l b) s t)
    ∙ sym (append_assoc (item_line (item_at l b)) (text_of (step_listing l b) s) (text_of (after (step_listing l b) s) t))

-- if there is no room for any line, nothing is taken
pub taken_full : (l : Listing) (s : List ℕ) (room : ℕ) → room < 35 → taken_of l s room ≡ 0
unfolding taken_of
taken_full l [] room h = refl
taken_full l (b ∷ s) room h = simp (lt-ltb _ _ h)

pub taken_end : (l : Listing) (room : ℕ) → taken_of l [] room ≡ 0
unfolding taken_of
taken_end l room = refl

-- a byte, if there is room for any line
pub taken_on : (l : Listing) (b : ℕ) (s : List ℕ) (room : ℕ) → 35 ≤ room
    → taken_of l (b ∷ s) room ≡ suc (taken_of (step_listing l b) s (room - length (item_line (item_at l b))))
unfolding taken_of
taken_on l b s room h = simp (le-ltb _ _ h)

-- ---- what the feed takes of s has one item, the last byte's
abbrev item : FeedResult → Item
item r = item_of r.framer.bytes r.event

abbrev reached : Listing → FeedResult → Listing
reached l r = record { framer = r.framer; totals = counted l.totals (item r) }

pub record Agrees (l : Listing) (s : List ℕ) (r : FeedResult) : Type 0 where
  pub state : after l (take r.taken s) ≡ reached l r
  pub text : text_of l (take r.taken s) ≡ item_line (item r)
  pub goes : (room : ℕ) → 35 ≤ room
      → taken_of l s room ≡ r.taken + taken_of (reached l r) (drop r.taken s) (room - length (item_line (item r)))

agrees_none : (l : Listing) → Agrees l [] (record { framer = l.framer; event = Nothing; taken = 0 })
unfolding after text_of taken_of item_line counted
agrees_none l = record { state = refl; text = refl; goes = λ room h. refl }

module _ (l : Listing) (b : ℕ) (s : List ℕ) where
  -- the state after a byte that ends nothing
  abbrev onward : Listing
  onward = record { framer = (step_of l.framer b).framer; totals = l.totals }

  still : (step_of l.framer b).event ≡ Nothing → step_listing l b ≡ onward
  unfolding counted
  still quiet = simp quiet

  silent : (step_of l.framer b).event ≡ Nothing → item_line (item_at l b) ≡ []
  unfolding item_line
  silent quiet = simp quiet

  agrees_on : (step_of l.framer b).event ≡ Nothing → (r : FeedResult) → Agrees onward s r
      → Agrees l (b ∷ s) (after_taking 1 r)
  unfolding after text_of after_taking
  agrees_on quiet r h =
      record {
        state =
            ap (λ (n : ℕ). after l (take n (b ∷ s))) (one-add r.taken)
            ∙ ap (λ (x : Listing). after x (take r.taken s)) (still quiet)
            ∙ h.state;
        text =
            ap (λ (n : ℕ). text_of l (take n (b ∷ s))) (one-add r.taken)
            ∙ ap (λ (x : Listing). item_line (item_at l b) ++ text_of x (take r.taken s)) (still quiet)
            ∙ ap (λ (x : List ℕ). x ++ text_of onward (take r.taken s)) (silent quiet)
            ∙ h.text;
        goes =
            λ room q.
            taken_on l b s room q
            ∙ ap (λ (x : Listing). suc (taken_of x s (room - length (item_line (item_at l b))))) (still quiet)
            ∙ ap (λ (x : List ℕ). suc (taken_of onward s (room - length x))) (silent quiet)
            ∙ ap (λ (n : ℕ). suc (taken_of onward s n)) (sub-zero room)
            ∙ ap suc (h.goes room q)
            ∙ rw one-add (sym (suc-add r.taken _));
      }

  agrees_stop :
      Agrees l (b ∷ s)
      (record { framer = (step_of l.framer b).framer; event = (step_of l.framer b).event; taken = 1 })
  unfolding after text_of
  agrees_stop =
      record {
        state = refl;
        text = append-nil _;
        goes = λ room h. taken_on l b s room h ∙ sym (one-add _);
      }

pub agrees : (s : List ℕ) (l : Listing) → Agrees l s (feed_of l.framer s)
unfolding feed_of
agrees [] l = agrees_none l
agrees (b ∷ s) l =
    feed_cases (Agrees l (b ∷ s)) l.framer b s
    (λ quiet. agrees_on l b s quiet (feed_of (step_of l.framer b).framer s) (agrees s (onward l b s)))
    (λ loud. agrees_stop l b s)
