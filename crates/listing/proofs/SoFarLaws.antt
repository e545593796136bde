-- The text of the first i bytes stands in the first `at` bytes of the buffer: how the loop over a slice goes on.
use Rattle.std.proofs.Common.{◌≡◌, ℕ, ◌+◌, ◌-◌, ◌<◌, ◌≤◌, List, ◌++◌, length, take, drop, sym, refl, ap, ◌∙◌, add-zero, add_assoc, zero-add, arith, length-append, length-drop, drop_of_length-le, drop-drop, take_at, take-add, drop_at}
use native.Mathlib.Nat.{le_refl, sub-zero, sub-add-eq}
use lib.Seq.{paste, length-paste, take-length}
use Rattle.framing.proofs.FeedLaws.{rest}
use Rattle.listing.specs.declared.Listing.{Listing}
use Rattle.listing.specs.declared.LineResult.{LineResult}
use Rattle.listing.specs.Listing.{after, text_of, taken_of, taking, listed_into, list_of}
use Rattle.listing.specs.NextLine.{ListsNext}
use Rattle.listing.proofs.ListingLaws.{after_append, text_append, taken_full, taken_end}

pub record ListedSoFar (l : Listing) (s buffer : List ℕ) (i at : ℕ) (now : Listing) (out : List ℕ) : Type 0 where
  pub within : i ≤ length s
  pub fits : at ≤ length buffer
  pub same : length out ≡ length buffer
  pub size : at ≡ length (text_of l (take i s))
  pub text : out ≡ text_of l (take i s) ++ drop at buffer
  pub state : now ≡ after l (take i s)
  pub goes : taken_of l s (length buffer) ≡ i + taken_of now (drop i s) (length buffer - at)

pub so_far_none : (l : Listing) (s buffer : List ℕ) → ListedSoFar l s buffer 0 0 l buffer
unfolding after text_of
so_far_none l s buffer =
    record {
      within = omega arith;
      fits = omega arith;
      same = refl;
      size = refl;
      text = refl;
      state = refl;
      goes = simp (zero-add, sub-zero);
    }

-- a turn of the loop takes some bytes, no more than there are, and puts their line, which has room
pub record Turn (l : Listing) (s buffer : List ℕ) (i at : ℕ) (out : List ℕ) (r : LineResult) : Type 0 where
  pub some : 0 < r.taken
  pub within : i + r.taken ≤ length s
  pub fits : at + length r.line.items ≤ length out
  pub more : ListedSoFar l s buffer (i + r.taken) (at + length r.line.items) r.listing
      (paste out at r.line.items (length r.line.items))

module _
    (l : Listing) (s buffer : List ℕ) (i at : ℕ) (now : Listing) (out : List ℕ)
    (w : ListedSoFar l s buffer i at now out)
  where
    module _
        (r : LineResult) (q : i < length s) (room : 35 ≤ length out - at)
        (t : ListsNext now (take (length s - i) (drop i s)) r)
      where
        told : ListsNext now (drop i s) r
        told = rw (rest s i) at t

        so_far_within : i + r.taken ≤ length s
        so_far_within = omega (arith, told.within, length-drop i s)

        so_far_fits : at + length r.line.items ≤ length out
        so_far_fits = omega (arith, told.short)

        abbrev more : List ℕ
        more = r.line.items

        text_more : text_of l (take (i + r.taken) s) ≡ text_of l (take i s) ++ more
        text_more =
            ap (text_of l) (take-add i r.taken s)
            ∙ text_append l (take i s) (take r.taken (drop i s))
            ∙ ap (λ (x : Listing). text_of l (take i s) ++ text_of x (take r.taken (drop i s))) (sym w.state)
            ∙ ap (λ (x : List ℕ). text_of l (take i s) ++ x) (sym told.text)

        front : take at out ≡ text_of l (take i s)
        front = ap (take at) w.text ∙ take_at (text_of l (take i s)) (drop at buffer) at (sym w.size)

        back : drop (at + length r.line.items) out ≡ drop (at + length r.line.items) buffer
        back =
            sym (drop-drop (length r.line.items) at out)
            ∙ ap (λ (x : List ℕ). drop (length r.line.items) x)
            (ap (drop at) w.text ∙ drop_at (text_of l (take i s)) (drop at buffer) at (sym w.size))
            ∙ drop-drop (length r.line.items) at buffer

        so_far_more : ListedSoFar l s buffer (i + r.taken) (at + length r.line.items) r.listing
            (paste out at r.line.items (length r.line.items))
        so_far_more =
            record {
              within = so_far_within;
              fits = omega (arith, so_far_fits, w.same);
              same = length-paste out at r.line.items (length r.line.items) so_far_fits (le_refl _) ∙ w.same;
              size =
                  ap (λ (n : ℕ). n + length more) w.size
                  ∙ sym (length-append (text_of l (take i s)) more)
                  ∙ ap length (sym text_more);
              text = rw (take-length, front, back, text_more);
              state =
                  told.state
                  ∙ ap (λ (x : Listing). after x (take r.taken (drop i s))) w.state
                  ∙ sym (after_append l (take i s) (take r.taken (drop i s)))
                  ∙ ap (after l) (sym (take-add i r.taken s));
              goes =
                  w.goes
                  ∙ ap (λ (n : ℕ). i + n) (told.goes (length buffer - at) (omega (arith, w.same)))
                  ∙ rw (drop-drop r.taken i s, sub-add-eq (length buffer) at (length r.line.items), add_assoc);
            }

        pub turn : Turn l s buffer i at out r
        turn =
            record {
              some = told.some (omega (arith, length-drop i s));
              within = so_far_within;
              fits = so_far_fits;
              more = so_far_more;
            }

    so_far_taken : taken_of now (drop i s) (length buffer - at) ≡ 0
        → listed_into (record { listing = now; taken = i; length = at }) out ≡ list_of l s buffer
    unfolding list_of
    so_far_taken z =
        same_listed ∙ ap (taking l s buffer) (sym (w.goes ∙ ap (λ (n : ℕ). i + n) z ∙ add-zero i))
      where
        buffers : out ≡ text_of l (take i s) ++ drop (length (text_of l (take i s))) buffer
        buffers = w.text ∙ ap (λ (n : ℕ). text_of l (take i s) ++ drop n buffer) w.size

        same_listed : listed_into (record { listing = now; taken = i; length = at }) out ≡ taking l s buffer i
        same_listed j = record { listing = w.state j; taken = i; length = w.size j; buffer = buffers j }

    -- the loop ends at the bytes' end
    pub so_far_end : length s ≤ i
        → listed_into (record { listing = now; taken = i; length = at }) out ≡ list_of l s buffer
    so_far_end h = so_far_taken (rw (drop_of_length-le s h) (taken_end now (length buffer - at)))

    -- or if there is no room for any line
    pub so_far_full : length out - at < 35
        → listed_into (record { listing = now; taken = i; length = at }) out ≡ list_of l s buffer
    so_far_full h = so_far_taken (taken_full now (drop i s) (length buffer - at) (omega (arith, w.same)))
