-- The main results of the listing.
use Rattle.std.proofs.Common.{◌≡◌, ℕ, ◌+◌, ◌<◌, ◌≤◌, true, List, [], ◌∷◌, ◌++◌, length, arith, length-append}
use Rattle.clock_time.specs.Lists.{ascii}
use Rattle.framing.specs.Framed.{all_plain}
use Rattle.framing.proofs.Theorems as framing
use Rattle.listing_lines.specs.Totals.{totals_line}
use Rattle.listing.specs.declared.Listing.{Listing}
use Rattle.listing.specs.Items.{Item, string, overlong, read_string, item_line}
use Rattle.listing.specs.Listing.{start, after, text_of, list_of, listing_of}
use Rattle.listing.specs.Calls.{Calls}
use Rattle.listing.proofs.ItemsLaws.{line_short}
use Rattle.listing.proofs.CallsLaws.{whole, taken_within, text_fits, taken_some, taken_all}
use Rattle.listing.proofs.CallsLaws.{found_text, dropped_text}

-- how the input is cut does not matter: calls on any slices and with any buffers show the text of the bytes that they
-- take, and leave the state and so the totals that are those of the whole
pub cuts_do_not_matter : {l : Listing} {input shown : List ℕ} {end : Listing} → Calls l input shown end
    → (shown ≡ text_of l input) × (end ≡ after l input)
cuts_do_not_matter calls = ((whole calls).text, (whole calls).state)

-- the program's whole output: the heading, what all calls put, and the totals' line of the state that they leave
pub whole_listing : {input shown : List ℕ} {end : Listing} → Calls start input shown end
    → ascii "time zone flags\n" ++ shown ++ totals_line end.totals ≡ listing_of input
unfolding listing_of
whole_listing calls = rw ((cuts_do_not_matter calls).0, (cuts_do_not_matter calls).1)

-- no line is longer than that of a clock time, 35 bytes
pub lines_short : (i : Item) → length (item_line i) ≤ 35
lines_short = line_short

module _ (l : Listing) (s buffer : List ℕ) where
  -- a call takes no more than there is
  pub list_takes_within : (list_of l s buffer).taken ≤ length s
  unfolding list_of
  list_takes_within = taken_within l s (length buffer)

  -- its text fits
  pub list_fits : (list_of l s buffer).length ≤ length buffer
  unfolding list_of
  list_fits = text_fits l s (length buffer)

  -- with room for any line it takes something if there is something
  pub list_takes_some : 35 ≤ length buffer → 0 < length s → 0 < (list_of l s buffer).taken
  unfolding list_of
  list_takes_some = taken_some l s (length buffer)

  -- and everything if a line more than the text would fit
  pub list_takes_all : length (text_of l s) + 35 ≤ length buffer → (list_of l s buffer).taken ≡ length s
  unfolding list_of
  list_takes_all = taken_all l s (length buffer)

module _ (l : Listing) (body : List ℕ) (size : length l.framer.bytes ≡ 66) (plain : all_plain body ≡ true) where
  -- every string of up to 66 bytes has its own line, whatever came before
  pub string_listed : length body + 2 ≤ 66
      → text_of l (2 ∷ body ++ 3 ∷ []) ≡ item_line (string (read_string (2 ∷ body ++ 3 ∷ [])))
  string_listed few = found_text l (2 ∷ body ++ 3 ∷ []) (framing.string_found l.framer body [] size plain few)

  -- and every longer one is dropped
  pub overlong_listed : 66 < length body + 2 → text_of l (2 ∷ body ++ 3 ∷ []) ≡ item_line overlong
  overlong_listed many =
      dropped_text l (2 ∷ body ++ 3 ∷ []) (length body + 2) (simp length-append (omega arith))
      (framing.overlong_dropped l.framer body [] size plain many)
