-- What is proved of each kind of string: one proof a kind, and what follows for all of them.
use Prim.Native.Nat.{ℕ, ◌≤◌}
use Prim.Native.Char.{code}
use native.Mathlib.Decide.{ℕ_discrete}
use native.Mathlib.Omega.{arith}
use mathlib.Core.Path.{◌≡◌, refl}
use mathlib.Core.Bool.{true}
use mathlib.Core.Logic.{by_cases}
use mathlib.Core.List.{List, [], ◌∷◌}
use lib.Dec.{lit<}
use lib.ListN.{length, get_or}
use borrow.Author.Tests.{ne_eqb, le-leb}
use Rattle.clock_time.specs.Errors.{accepted, refused}
use Rattle.clock_time.specs.Faithful.{Faithful}
use Rattle.clock_time.specs.FieldRanges.{Range, time_ranges, gps_ranges, FitsPosition}
use Rattle.clock_time.specs.Order.{numbers_of}
use Rattle.clock_time.specs.declared.ClockTime.{ClockTime}
use Rattle.clock_time.proofs.OrderLaws.{Agree, positive}
use Rattle.calendar.specs.UnixTime.{is_reading}
use Rattle.layout.specs.Text.{text_checks, read_text, write_text}
use Rattle.layout.proofs.LinesLaws.{agrees}
use Rattle.meinberg_standard.specs.Standard.{standard, read_standard, write_standard}
use Rattle.meinberg_standard.proofs.SaysLaws as standard_words
use Rattle.meinberg_standard.proofs.Theorems as standards
use Rattle.meinberg_pzf.specs.Pzf.{pzf, read_pzf, write_pzf}
use Rattle.meinberg_pzf.proofs.SaysLaws as pzf_words
use Rattle.meinberg_pzf.proofs.Theorems as pzfs
use Rattle.meinberg_gps.specs.Gps.{gps, written_gps, read_gps, write_gps}
use Rattle.meinberg_gps.proofs.SaysLaws as gps_words
use Rattle.meinberg_gps.proofs.Theorems as gpss
use Rattle.elv_dcf7000.specs.Elv.{elv, read_elv, write_elv}
use Rattle.elv_dcf7000.proofs.SaysLaws as elv_words
use Rattle.elv_dcf7000.proofs.Theorems as elvs
use Rattle.time_string.specs.declared.Reading.{Reading}
use Rattle.time_string.specs.Row.{Shape, without_position, with_position, Shaped, text_order, KindRow}
use Rattle.time_string.specs.Row.{kind_row, all_kinds}
use Rattle.time_string.specs.Kind.{first_told, kind_of, kind_number, kind_named}
use Rattle.time_string.specs.Accepted.{TellsKind, AcceptsAs}
use Rattle.time_string.specs.declared.Kind.{Kind}
use Rattle.time_string.specs.declared.Kind.TheVariants.{Standard, Pzf, Gps, Elv}

-- ---- by the shape of a kind's readings
-- the clock time in them
abbrev pub clock_in : (shape : Shape) → Shaped shape → ClockTime
clock_in without_position t = t
clock_in with_position g = g.time

-- the numbers of the position fit their fields, if there is one
abbrev pub PositionFits : (shape : Shape) → Shaped shape → Type 0
PositionFits without_position t = Unit {0}
PositionFits with_position g = FitsPosition g.position

-- the ranges of their numbers
abbrev pub shape_ranges : Shape → List Range
shape_ranges without_position = time_ranges
shape_ranges with_position = gps_ranges

-- ---- what is shown of a kind
-- its row by itself
pub record RowLaws (r : KindRow) : Type 0 where
  -- what the reader goes by are the lines in words, whose numbers are these, and none is 0
  pub agree : (s : List ℕ) → Agree (text_checks r.format.format s) (r.lines s)
  pub order : (s : List ℕ) → numbers_of (r.lines s) ≡ text_order r.own
  pub above_0 : positive (text_order r.own) ≡ true
  -- what is accepted and what is written: demand 2
  pub faithful : Faithful r.Accepts (read_text r.format.format) (write_text r.format)
  -- what is read is valid, and its numbers are in the ranges that C has for it
  pub valid_read : (s : List ℕ) (a : Shaped r.shape) → read_text r.format.format s ≡ accepted a
      → is_reading (clock_in r.shape a) ≡ true
  pub position_fits : (s : List ℕ) (a : Shaped r.shape) → read_text r.format.format s ≡ accepted a
      → PositionFits r.shape a
  pub same_ranges : r.ranges ≡ shape_ranges r.shape

-- its row among the others
pub record KindLaws (kind : Kind) : Type 0 where
  pub row : RowLaws (kind_row kind)
  -- its number names it
  pub named : kind_named (kind_number kind) ≡ accepted kind
  -- what it accepts is told as it
  pub accepted_told : (s : List ℕ) (q : Reading) → AcceptsAs kind s q → TellsKind s kind
  -- the bytes that tell it tell no other
  pub told : (s : List ℕ) → TellsKind s kind → kind_of s ≡ accepted kind
  -- a string of its length has a kind
  pub some : (s : List ℕ) → length s ≡ (kind_row kind).long → (k : Kind) × (kind_of s ≡ accepted k)

-- ---- one proof a kind
-- a string of 32 bytes is told by its letter
by_letter : (s : List ℕ) → length s ≡ 32 → (k : Kind) × (kind_of s ≡ accepted k)
unfolding kind_of
by_letter s h =
    by_cases (ℕ_discrete (get_or s 1 0) (code "D")) (λ d. (Standard, rw (h, d) refl))
    (λ d. (Pzf, rw (h, ne_eqb _ _ d) refl))

pub kind_laws : (kind : Kind) → KindLaws kind
unfolding kind_named kind_of read_standard write_standard standard read_pzf write_pzf pzf read_gps write_gps written_gps gps
    read_elv write_elv elv
kind_laws Standard =
    record {
      row =
          record {
            agree = agrees standard_words.in_words;
            order = λ s. refl;
            above_0 = refl;
            faithful = standards.faithful;
            valid_read = standards.valid_read;
            position_fits = λ s t h. tt;
            same_ranges = refl;
          };
      named = refl;
      accepted_told = λ s q h. let drawn = h.1.0.0 in (drawn.long, drawn.at 1 (lit< tt));
      told = λ s h. rw (h.0, h.1) refl;
      some = by_letter;
    }
kind_laws Pzf =
    record {
      row =
          record {
            agree = agrees pzf_words.in_words;
            order = λ s. refl;
            above_0 = refl;
            faithful = pzfs.faithful;
            valid_read = pzfs.valid_read;
            position_fits = λ s t h. tt;
            same_ranges = refl;
          };
      named = refl;
      accepted_told = λ s q h.
          let drawn = h.1.0.0 in
          (drawn.long, λ d. let digit = drawn.at 1 (lit< tt) in omega (arith, d, digit.1));
      told = λ s h. rw (h.0, ne_eqb _ _ h.1) refl;
      some = by_letter;
    }
kind_laws Gps =
    record {
      row =
          record {
            agree = agrees gps_words.in_words;
            order = λ s. refl;
            above_0 = refl;
            faithful = gpss.faithful;
            valid_read = gpss.valid_read;
            position_fits = gpss.position_fits;
            same_ranges = refl;
          };
      named = refl;
      accepted_told = λ s q h. (h.1.0.0.long, tt);
      told = λ s h. rw h.0 refl;
      some = λ s h. (Gps, rw h refl);
    }
kind_laws Elv =
    record {
      row =
          record {
            agree = agrees elv_words.in_words;
            order = λ s. refl;
            above_0 = refl;
            faithful = elvs.faithful;
            valid_read = elvs.valid_read;
            position_fits = λ s t h. tt;
            same_ranges = refl;
          };
      named = refl;
      accepted_told = λ s q h. (h.1.0.0.long, tt);
      told = λ s h. rw h.0 refl;
      some = λ s h. (Elv, rw h refl);
    }

-- ---- for all kinds
none_told : (s : List ℕ) → ((kind : Kind) → length s ≡ (kind_row kind).long → ⊥) → (ks : List Kind)
    → first_told s ks ≡ refused 1
none_told s none [] = refl
none_told s none (k ∷ ks) = rw (ne_eqb _ _ (none k)) (none_told s none ks)

-- "any other length is refused with 1" (01, Meinberg and ELV strings)
pub untold : (s : List ℕ) → ((kind : Kind) → length s ≡ (kind_row kind).long → ⊥) → kind_of s ≡ refused 1
unfolding kind_of
untold s none = none_told s none all_kinds

pub kind_unknown : (n : ℕ) → length all_kinds ≤ n → kind_named n ≡ refused 1
unfolding kind_named
kind_unknown n h = rw (le-leb _ _ h)
