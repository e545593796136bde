-- Laws of whole calls of `list`.
use Rattle.std.proofs.Common.{◌≡◌, ℕ, suc, ◌+◌, ◌-◌, ◌<◌, ◌≤◌, Bool, true, false, cond, ltb, List, [], ◌∷◌, ◌++◌, length, take, sym, refl, ap, ◌∙◌, subst, lt_of_not-le, arith, length-append}
use native.Mathlib.Decide.{dec_le}
use lib.Seq.{take-append_seam, take-length}
use Rattle.framing.specs.Feed.{feed_of}
use Rattle.framing.specs.Framed.{Finds, Drops}
use Rattle.listing.specs.declared.Listing.{Listing}
use Rattle.listing.specs.declared.Listed.{Listed}
use Rattle.listing.specs.Items.{string, overlong, read_string, item_of, item_line}
use Rattle.listing.specs.Listing.{item_at, step_listing, after, text_of, taken_of, ListedInto, listed_into, list_of}
use Rattle.listing.specs.Calls.{bytes_taken, text, Calls, none, call}
use Rattle.listing.proofs.ItemsLaws.{line_short}
use Rattle.listing.proofs.ListingLaws.{after_append, text_append, taken_full, taken_on, agrees}

pub record Whole (l : Listing) (input shown : List ℕ) (end : Listing) : Type 0 where
  pub text : shown ≡ text_of l input
  pub state : end ≡ after l input

module _ (l : Listing) (s buffer : List ℕ) where
  pub call_text : text (list_of l s buffer) ≡ text_of l (bytes_taken s (list_of l s buffer))
  unfolding list_of
  call_text = take-append_seam (text_of l (take (taken_of l s (length buffer)) s)) _

  pub call_state : (list_of l s buffer).listing ≡ after l (bytes_taken s (list_of l s buffer))
  unfolding list_of
  call_state = refl

pub whole : {l : Listing} {input shown : List ℕ} {end : Listing} → Calls l input shown end → Whole l input shown end
unfolding text_of after
whole none = record { text = refl; state = refl }
whole {l} (call s buffer {input} {shown} {end} rest) =
    let w = whole rest in
    let n = bytes_taken s (list_of l s buffer) in
    record {
      text =
          ap (λ (x : List ℕ). x ++ shown) (call_text l s buffer)
          ∙ ap (λ (x : List ℕ). text_of l n ++ x)
          (w.text ∙ ap (λ (x : Listing). text_of x input) (call_state l s buffer))
          ∙ sym (text_append l n input);
      state =
          w.state
          ∙ ap (λ (x : Listing). after x input) (call_state l s buffer)
          ∙ sym (after_append l n input);
    }

pub taken_some : (l : Listing) (s : List ℕ) (room : ℕ) → 35 ≤ room → 0 < length s → 0 < taken_of l s room
taken_some l [] room h q = absurd (omega arith)
taken_some l (b ∷ s) room h q = omega (arith, taken_on l b s room h)

pub taken_all : (l : Listing) (s : List ℕ) (room : ℕ) → length (text_of l s) + 35 ≤ room → taken_of l s room ≡ length s
unfolding text_of taken_of
taken_all l [] room h = refl
taken_all l (b ∷ s) room h =
    let line = item_line (item_at l b) in
    let size = length-append line (text_of (step_listing l b) s) in
    let ih = taken_all (step_listing l b) s (room - length line) (omega (arith, size)) in
    taken_on l b s room (omega arith) ∙ rw ih

cond_within : (t : Bool) {m n : ℕ} → m ≤ n → cond t 0 (suc m) ≤ suc n
cond_within true h = omega arith
cond_within false h = omega arith

pub taken_within : (l : Listing) (s : List ℕ) (room : ℕ) → taken_of l s room ≤ length s
unfolding taken_of
taken_within l [] room = omega arith
taken_within l (b ∷ s) room =
    cond_within (ltb room 35) (taken_within (step_listing l b) s (room - length (item_line (item_at l b))))

-- the text of the bytes taken has room
pub text_fits : (l : Listing) (s : List ℕ) (room : ℕ) → length (text_of l (take (taken_of l s room) s)) ≤ room
unfolding text_of taken_of
text_fits l [] room = omega arith
text_fits l (b ∷ s) room = elim (dec_le 35 room) [
  | yes h ↦
      let line = item_line (item_at l b) in
      let n = taken_of (step_listing l b) s (room - length line) in
      rw (taken_on l b s room h)
      (omega (
        arith,
        length-append line (text_of (step_listing l b) (take n s)),
        line_short (item_at l b),
        text_fits (step_listing l b) s (room - length line),
      ))
  | no h ↦ rw (taken_full l (b ∷ s) room (lt_of_not-le h)) (omega arith)
]

front_fits : (x y : List ℕ) → length x ≤ length (x ++ y)
front_fits x y = omega (arith, length-append x y)

-- ---- a call of the function: what it took, and what it put to the front of its buffer
module _ (l : Listing) (s buffer out : List ℕ) (r : Listed) (e : listed_into r out ≡ list_of l s buffer) where
  pub listed_within : r.taken ≤ length s
  unfolding list_of
  listed_within = subst (λ (x : ListedInto). x.taken ≤ length s) (sym e) (taken_within l s (length buffer))

  pub listed_some : 35 ≤ length buffer → 0 < length s → 0 < r.taken
  unfolding list_of
  listed_some room some =
      subst (λ (x : ListedInto). 0 < x.taken) (sym e) (taken_some l s (length buffer) room some)

  pub listed_state : r.listing ≡ after l (take r.taken s)
  listed_state = subst (λ (x : ListedInto). x.listing ≡ after l (bytes_taken s x)) (sym e) (call_state l s buffer)

  pub listed_text : take r.length out ≡ text_of l (take r.taken s)
  listed_text = subst (λ (x : ListedInto). text x ≡ text_of l (bytes_taken s x)) (sym e) (call_text l s buffer)

  pub listed_fits : r.length ≤ length out
  unfolding list_of
  listed_fits =
      subst (λ (x : ListedInto). x.length ≤ length x.buffer) (sym e)
      (front_fits (text_of l (take (taken_of l s (length buffer)) s)) _)

-- ---- a string as the feed finds it, from any state
module _ (l : Listing) (frame : List ℕ) where
  whole_text : (feed_of l.framer frame).taken ≡ length frame
      → text_of l frame
      ≡ item_line (item_of (feed_of l.framer frame).framer.bytes (feed_of l.framer frame).event)
  whole_text e =
      ap (text_of l) (sym (take-length frame) ∙ ap (λ (n : ℕ). take n frame) (sym e)) ∙ (agrees frame l).text

  pub found_text : Finds frame (feed_of l.framer frame) → text_of l frame ≡ item_line (string (read_string frame))
  found_text f = whole_text f.taken ∙ rw (f.event, f.kept)

  pub dropped_text : (n : ℕ) → n ≡ length frame → Drops n (feed_of l.framer frame)
      → text_of l frame ≡ item_line overlong
  dropped_text n e f = whole_text (f.taken ∙ e) ∙ rw f.event
