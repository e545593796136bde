-- What follows of each kind of string from its proof: what is accepted, what is valid, what is written of numbers.
use Prim.Native.Nat.{ℕ}
use mathlib.Core.Path.{◌≡◌, refl, sym, ap, ◌∙◌}
use mathlib.Core.Bool.{Bool, true, false}
use mathlib.Core.List.{List}
use lib.ListN.{length}
use lib.IntN.{ℤ}
use Rattle.clock_time.specs.Errors.{Answer, accepted, refused, checked}
use Rattle.clock_time.specs.Writing.{Written}
use Rattle.clock_time.specs.FieldRanges.{time_ranges, gps_ranges}
use Rattle.clock_time.proofs.ErrorLaws.{apart, checked_map}
use Rattle.calendar.specs.Rules.{ValidReading}
use Rattle.calendar.specs.UnixTime.{is_reading}
use Rattle.calendar.proofs.RulesLaws.{valid_exactly}
use Rattle.layout.specs.Text.{text_checks, read_text, write_text}
use Rattle.time_string.specs.declared.Reading.{Reading}
use Rattle.time_string.specs.Row.{reading_time, Shape, without_position, with_position, Shaped, as_reading}
use Rattle.time_string.specs.Row.{shaped_answer, KindRow, kind_row}
use Rattle.time_string.specs.Kind.{read_row}
use Rattle.time_string.specs.Accepted.{AcceptsRow, AcceptsAs}
use Rattle.time_string.specs.declared.Kind.{Kind}
use Rattle.time_string.proofs.KindLaws.{clock_in, PositionFits, shape_ranges, RowLaws, kind_laws}
use Rattle.c_numbers.specs.Numbers.{time_numbers, gps_numbers}
use Rattle.c_fields.specs.Ranges.{numbered, numbered_in}
use Rattle.c_fields.proofs.Theorems as fields
use Rattle.c_writer.specs.Writers.{shaped_from, write_row}
use Rattle.c_readings.specs.Strings.{reading_numbers}
use Rattle.c_readings.proofs.StringLaws.{shaped_numbers}
use Rattle.demands.specs.Exactly.{ReadsExactly}
use Rattle.demands.proofs.WriterLaws.{Settled, settled, settled_same, numbers_settled}
use Rattle.demands.proofs.FitsLaws.{valid_fits}

-- ---- what a reading is by its shape
-- what the numbers of a reading stand for
abbrev shaped_of : (shape : Shape) → List ℤ → Answer (Shaped shape)
shaped_of shape z = numbered_in (shape_ranges shape) (shaped_from shape) z

-- what a format gives, handed on as a reading with a clock time in it, and as numbers that stand for it
record Handed (shape : Shape) : Type 0 where
  same_clock : (a : Shaped shape) → reading_time (as_reading shape a) ≡ clock_in shape a
  same_numbers : (a : Shaped shape) → reading_numbers (as_reading shape a) ≡ shaped_numbers shape a
  numbers_long : (a : Shaped shape) → length (shaped_numbers shape a) ≡ length (shape_ranges shape)
  numbers_of : (z : List ℤ) (a : Shaped shape) → shaped_of shape z ≡ accepted a → shaped_numbers shape a ≡ z
  of_numbers : (a : Shaped shape) → is_reading (clock_in shape a) ≡ true → PositionFits shape a
      → shaped_of shape (shaped_numbers shape a) ≡ accepted a

-- numbers that are no reading's are refused with 23
pub numbered_23 : {A : Type 0} (fit : Bool) (a : A) (k : ℕ) → numbered fit a ≡ refused k → k ≡ 23
unfolding numbered
numbered_23 true a k e = apart e
numbered_23 false a k e = cc

handed : (shape : Shape) → Handed shape
unfolding gps_numbers time_numbers gps_ranges time_ranges
handed without_position =
    record {
      same_clock = λ t. refl;
      same_numbers = λ t. refl;
      numbers_long = λ t. refl;
      numbers_of = fields.numbers_time;
      of_numbers = λ t valid fit. fields.time_numbers_lem t (valid_fits t valid);
    }
handed with_position =
    record {
      same_clock = λ g. refl;
      same_numbers = λ g. refl;
      numbers_long = λ g. refl;
      numbers_of = fields.numbers_gps;
      of_numbers = λ g valid fit. fields.gps_numbers_lem g (valid_fits g.time valid) fit;
    }

-- what the reader of a row goes by, and what it gives if all of that passes
pub row_checks : (r : KindRow) (s : List ℕ) → read_row r s
    ≡ checked (text_checks r.format.format s) (as_reading r.shape (r.format.format.fields s))
unfolding read_text
row_checks r s =
    let f = r.format.format in
    checked_map (shaped_answer r.shape) (as_reading r.shape) (λ a. refl) (λ k. refl) (text_checks f s)
    (f.fields s)

-- how many numbers it has
pub kind_long : (kind : Kind) (s : List ℕ) → let r = kind_row kind in
    length (reading_numbers (as_reading r.shape (r.format.format.fields s))) ≡ length r.ranges
kind_long kind s =
    let r = kind_row kind in
    let h = handed r.shape in
    let a = r.format.format.fields s in
    ap length (h.same_numbers a) ∙ h.numbers_long a ∙ ap length (sym (kind_laws kind).row.same_ranges)

module _ (shape : Shape) where
  unwrapped : (answer : Answer (Shaped shape)) (q : Reading) → shaped_answer shape answer ≡ accepted q
      → (a : Shaped shape) × (answer ≡ accepted a) × (q ≡ as_reading shape a)
  unwrapped (accepted a) q e = (a, refl, cc)
  unwrapped (refused k) q e = apart (sym e)

  handed_exactly : {Accepts : Shaped shape → Type 0} (answer : Answer (Shaped shape)) → ReadsExactly Accepts answer
      → ReadsExactly (λ q. (a : Shaped shape) × (Accepts a × (q ≡ as_reading shape a))) (shaped_answer shape answer)
  handed_exactly answer exact q = (
    λ e. let w = unwrapped answer q e in (w.0, ((exact w.0).0 w.1, w.2)),
    λ p. rw ((exact p.0).1 p.1.0, p.1.1) refl,
  )

  handed_settled : {Accepts : List ℕ → Shaped shape → Type 0} {z : List ℤ} {d : List ℕ} {e : Written}
      → Settled (λ s. (a : Shaped shape) × (Accepts s a × (z ≡ shaped_numbers shape a))) d e
      → Settled (λ s.
      (q : Reading) × (((a : Shaped shape) × (Accepts s a × (q ≡ as_reading shape a))) × (z ≡ reading_numbers q))) d e
  handed_settled =
      settled_same (λ s. (
        λ p. (
          as_reading shape p.0,
          ((p.0, (p.1.0, refl)), p.1.1 ∙ sym ((handed shape).same_numbers p.0)),
        ),
        λ p.
            let a = p.1.0.0 in
            (a, (p.1.0.1.0, p.1.1 ∙ ap reading_numbers p.1.0.1.1 ∙ (handed shape).same_numbers a)),
      ))

-- ---- of any row that is proved
module _ {r : KindRow} (laws : RowLaws r) where
  row_exactly : (s : List ℕ) → ReadsExactly (AcceptsRow r s) (read_row r s)
  row_exactly s =
      handed_exactly r.shape (read_text r.format.format s) (laws.faithful.reader.accepted_exactly s)

  accepted_valid : (s : List ℕ) (a : Shaped r.shape) → r.Accepts s a → is_reading (clock_in r.shape a) ≡ true
  accepted_valid s a h = laws.valid_read s a ((laws.faithful.reader.accepted_exactly s a).1 h)

  row_valid : (s : List ℕ) (q : Reading) → AcceptsRow r s q → ValidReading (reading_time q)
  row_valid s q h =
      let a = h.0 in
      rw (h.1.1, (handed r.shape).same_clock a)
      ((valid_exactly (clock_in r.shape a)).0 (accepted_valid s a h.1.0))

  row_settles : (z : List ℤ) (d : List ℕ)
      → Settled (λ s. (q : Reading) × (AcceptsRow r s q × (z ≡ reading_numbers q))) d (write_row r z d)
  row_settles z d =
      let h = handed r.shape in
      rw laws.same_ranges
      (handed_settled r.shape
      (numbers_settled (write_text r.format) (shaped_of r.shape) (shaped_numbers r.shape)
      (settled laws.faithful) h.numbers_of
      (λ s a q.
      h.of_numbers a (accepted_valid s a q)
      (laws.position_fits s a ((laws.faithful.reader.accepted_exactly s a).1 q)))
      (λ x k e. numbered_23 _ _ k e) z d))

-- ---- of any kind
pub kind_exactly : (kind : Kind) (s : List ℕ) → ReadsExactly (AcceptsAs kind s) (read_row (kind_row kind) s)
kind_exactly kind = row_exactly (kind_laws kind).row

pub kind_valid : (kind : Kind) (s : List ℕ) (q : Reading) → AcceptsAs kind s q → ValidReading (reading_time q)
kind_valid kind = row_valid (kind_laws kind).row

pub kind_settles : (kind : Kind) (z : List ℤ) (d : List ℕ)
    → Settled (λ s. (q : Reading) × (AcceptsAs kind s q × (z ≡ reading_numbers q))) d (write_row (kind_row kind) z d)
kind_settles kind = row_settles (kind_laws kind).row
