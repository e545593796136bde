-- The main results, for any format: which strings are accepted, which are refused, and what is written.
use Prim.Native.Nat.{ℕ}
use mathlib.Core.Path.{◌≡◌}
use mathlib.Core.Logic.{◌↔◌}
use mathlib.Core.Bool.{true, false}
use mathlib.Core.List.{List}
use Rattle.clock_time.specs.Errors.{accepted, refused}
use Rattle.clock_time.specs.Order.{Gives}
use Rattle.clock_time.specs.Faithful.{Faithful}
use Rattle.clock_time.specs.declared.ClockTime.{ClockTime}
use Rattle.clock_time.proofs.FaithfulLaws as writing
use Rattle.clock_time.proofs.OrderLaws as orders
use Rattle.calendar.specs.Rules.{ReadingRules}
use Rattle.layout.specs.Text.{Format, WrittenFormat, clock_format, text_checks, read_text, write_text}
use Rattle.layout.specs.Picture.{Place, AsDrawn}
use Rattle.layout.specs.Lines.{OwnFaults, no_faults, text_lines}
use Rattle.layout.proofs.AcceptLaws.{PassesText, read_passes}
use Rattle.layout.proofs.ExactLaws.{InWords, NoRules, fits_drawn, legible, read_says, says_read}
use Rattle.layout.proofs.LinesLaws.{agrees}

module _
    {A : Type 0} {f : Format A} {p : List Place} {own : OwnFaults} {Rules : List ℕ → Type 0}
    {Says : List ℕ → A → Type 0} (w : InWords f p own Rules Says) (s : List ℕ)
  where
    -- a string is read as a value exactly if it is as drawn, says the value, keeps the format's own rules, and the
    -- value is a reading
    pub exactly : (a : A)
        → (read_text f s ≡ accepted a) ↔ (AsDrawn p s × Says s a × Rules s × ReadingRules (f.clock a))
    exactly a = (read_says w s a, λ r. says_read w s a r.0 r.1 r.2 r.3)

    -- "Each number is given when its line holds and no earlier one does, and never otherwise." (01, Refusal numbers)
    pub refused_exactly : (n : ℕ) → (read_text f s ≡ refused n) ↔ Gives (text_lines p own Says f.clock s) n
    unfolding read_text
    refused_exactly =
        orders.refused_exactly (text_checks f s) (text_lines p own Says f.clock s) (agrees w s) (f.fields s)

    -- a string that is as drawn and keeps the format's own rules says one value and no other
    pub says_one : AsDrawn p s → Rules s → (a : A) × (Says s a × ((b : A) → Says s b → b ≡ a))
    says_one d rules =
        let l = legible ((fits_drawn w.picture s).1 d) ((w.rules s).0 rules) in
        (f.fields s, (w.fields_say s l, λ b h. w.said_fields s b l h))

-- the first of these, of a format of clock times alone whose flags are all letters
pub exactly_letters : {l : List ℕ} {fields : List ℕ → ClockTime} {p : List Place}
    {Says : List ℕ → ClockTime → Type 0} → let f = clock_format l (λ s. false) fields in
    InWords f p no_faults NoRules Says → (s : List ℕ) (t : ClockTime)
    → (read_text f s ≡ accepted t) ↔ (AsDrawn p s × Says s t × ReadingRules t)
exactly_letters w s t = (
  λ h. let r = (exactly w s t).0 h in (r.0, r.1, r.3),
  λ r. (exactly w s t).1 (r.0, r.1, tt, r.2),
)

-- demand 2, of a format in which an accepted string is the text of its fields, and whose test of sameness is right
pub faithful : {A : Type 0} (w : WrittenFormat A) (Accepts : List ℕ → A → Type 0) → let f = w.format in
    ((s : List ℕ) (a : A) → (read_text f s ≡ accepted a) ↔ Accepts s a)
    → ((s : List ℕ) → PassesText f s → w.text (f.fields s) ≡ s)
    → ((a : A) → w.same a a ≡ true) → ((a b : A) → w.same a b ≡ true → a ≡ b)
    → Faithful Accepts (read_text f) (write_text w)
unfolding write_text
faithful {A} w Accepts exact text_fields same_refl same_true =
    writing.faithful (read_text f) w.text w.same text_read same_refl same_true Accepts exact
  where
    f : Format A
    f = w.format

    text_read : (s : List ℕ) (a : A) → read_text f s ≡ accepted a → w.text a ≡ s
    text_read s a h = let r = read_passes f s a h in rw r.1 (text_fields s r.0)
