-- A feed over all of s, read, counted and with its line, is what the listing tells of s.
use Rattle.std.proofs.Common.{◌≡◌, ℕ, ◌≤◌, List, length, take, sym, refl, ap, ◌∙◌, arith}
use lib.Seq.{take-length}
use Rattle.framing.specs.declared.Event.{Event}
use Rattle.framing.specs.declared.Event.TheVariants.{Nothing, Complete, Dropped}
use Rattle.framing.specs.declared.FeedResult.{FeedResult}
use Rattle.framing.specs.Feed.{feed_of}
use Rattle.framing.proofs.StepsLaws.{feed_taken, feed_complete}
use Rattle.listing.specs.declared.Listing.{Listing}
use Rattle.listing_lines.specs.declared.Totals.{Totals}
use Rattle.arrayvec.specs.ArrayVec.{ArrayVec}
use Rattle.listing.proofs.ItemsLaws.{line_short}
use Rattle.listing.specs.Items.{Item, Within, item_of, item_line, counted}
use Rattle.listing.specs.NextLine.{ListsNext}
use Rattle.listing.proofs.ListingLaws.{Agrees, agrees}

within_few : (a : Event) (bytes : List ℕ) → length bytes ≡ 66 → ((n : ℕ) → a ≡ Complete n → n ≤ 66)
    → Within a bytes
within_few Nothing bytes size few = tt
within_few (Complete n) bytes size few = let h : n ≤ 66 = few n refl in omega arith
within_few Dropped bytes size few = tt

module _ (l : Listing) (s : List ℕ) (r : FeedResult) (e : r ≡ feed_of l.framer (take (length s) s)) where
  whole : r ≡ feed_of l.framer s
  whole = rw take-length at e

  -- a complete string is no longer than the bytes of the state
  pub next_within : length r.framer.bytes ≡ 66 → Within r.event r.framer.bytes
  next_within size =
      within_few r.event r.framer.bytes size
      (λ n q. (feed_complete l.framer s n (sym (ap (λ (f : FeedResult). f.event) whole) ∙ q)).1)

  next_agrees : Agrees l s r
  next_agrees = rw whole (agrees s l)

  pub lists_next : (i : Item) → i ≡ item_of r.framer.bytes r.event
      → (totals : Totals) → totals ≡ counted l.totals i → (line : ArrayVec ℕ) → line.items ≡ item_line i
      → ListsNext l s
      (record { listing = record { framer = r.framer; totals = totals }; line = line; taken = r.taken })
  lists_next i q totals t line shows =
      record {
        within = rw taken (feed_taken l.framer s (length s)).0;
        some = λ h. rw taken ((feed_taken l.framer s (length s)).1 h h);
        short = rw shows (line_short i);
        text = shows ∙ ap item_line q ∙ sym next_agrees.text;
        state = listing ∙ sym next_agrees.state;
        goes = λ room h. rw (listing, size) (next_agrees.goes room h);
      }
    where
      taken : r.taken ≡ (feed_of l.framer (take (length s) s)).taken
      taken = ap (λ (f : FeedResult). f.taken) e

      listing : ◌≡◌ {A = Listing} (record { framer = r.framer; totals = totals })
          (record { framer = r.framer; totals = counted l.totals (item_of r.framer.bytes r.event) })
      listing = rw (t, q)

      size : length line.items ≡ length (item_line (item_of r.framer.bytes r.event))
      size = ap length (shows ∙ ap item_line q)
