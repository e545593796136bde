-- The checks of a Trimble string agree with its lines in words, once those that never fail are left out.
use Rattle.std.proofs.Common.{◌≡◌, ℕ, Bool, true, false, not, ◌&&◌, ◌||◌, eqb, ◌⊎◌, ◌↔◌, List, [], ◌∷◌, ◌++◌, length, sym, refl, ap, ◌∙◌, inl, inr, lit<, eqb-true, le-leb}
use mathlib.Core.Bool.{false≢true}
use borrow.Author.Tests.{not-false}
use Rattle.clock_time.specs.Errors.{checked, Passes}
use Rattle.clock_time.specs.Lists.{ascii}
use Rattle.clock_time.proofs.ErrorLaws.{checked_without}
use Rattle.clock_time.proofs.OrderLaws.{Agree}
use Rattle.clock_time.proofs.Tests.{both}
use Rattle.gregorian.specs.Date.{supported_date}
use Rattle.calendar.specs.Date.{with_weekday}
use Rattle.calendar.proofs.WeekdayLaws.{weekday_least, weekday_most}
use Rattle.layout.specs.Layout.{number, found}
use Rattle.layout.specs.Text.{supported_day, clock_checks, text_checks, read_text}
use Rattle.layout.proofs.PictureLaws.{none_without}
use Rattle.layout.proofs.ExactLaws.{line_drawn}
use Rattle.layout.proofs.LinesLaws.{agrees}
use Rattle.trimble_sv6.specs.Trimble.{trimble_layout, sent_fields, trimble_fields, trimble, read_trimble}
use Rattle.trimble_sv6.specs.Says.{trimble_picture}
use Rattle.trimble_sv6.specs.Lines.{trimble_lines}
use Rattle.trimble_sv6.proofs.Checks.{shape_checks, flag_check, own_checks, in_years, has_date, date_check, time_check}
use Rattle.trimble_sv6.proofs.Checks.{weekday_check, trimble_checks}
use Rattle.trimble_sv6.proofs.SaysLaws.{yearly, in_words}

-- ---- the checks that never fail
-- no place is a flag's
no_flag : (s : List ℕ) → not (eqb (length trimble_layout) (length s)) ≡ false → (flag_check s).fails ≡ false
unfolding trimble_layout ascii yearly
no_flag s h = go (found 4 trimble_layout s) refl
  where
    go : (t : Bool) → found 4 trimble_layout s ≡ t → (t || false) ≡ false
    go true e =
        absurd (none_without 4 (lit< tt) trimble_picture refl
        ((line_drawn in_words.picture s 4 (lit< tt) (sym (eqb-true _ _ (not-false _ h)))).0 e))
    go false e = refl

-- a date of the years 1970 to 2069 has a weekday
has_weekday : (s : List ℕ) → Passes (trimble_checks s) → (weekday_check s).fails ≡ false
unfolding supported_day sent_fields
has_weekday s p =
    let d = not-false _ p.1.1.1.1.1.0 in
    let y = number 4 17 s in
    let month = number 2 15 s in
    let day = number 2 13 s in
    simp (le-leb _ _ (weekday_least y month day d), le-leb _ _ (weekday_most y month day d))

pub read_checks_lem : (s : List ℕ) → read_trimble s ≡ checked (trimble_checks s) (trimble_fields s)
unfolding read_trimble read_text text_checks clock_checks trimble trimble_fields supported_day with_weekday sent_fields
read_checks_lem s =
    checked_without (shape_checks s) (flag_check s)
    (own_checks s ++ (date_check s ∷ time_check s ∷ weekday_check s ∷ [])) (trimble_fields s) (λ p. no_flag s p.0)
    ∙ checked_without (trimble_checks s) (weekday_check s) [] (trimble_fields s) (has_weekday s)

-- ---- the others
-- a line that holds if one of two does, the second of which is known if the first passes
either_fails : (a b : Bool) {P Q : Type 0} → ((not a ≡ true) ↔ P) → (not a ≡ false → (not b ≡ true) ↔ Q)
    → (not (a && b) ≡ true) ↔ (P ⊎ Q)
either_fails true b i j = (
  λ h. inr ((j refl).0 h),
  λ w. elim w [
    | inl p ↦ absurd (false≢true (i.1 p))
    | inr q ↦ (j refl).1 q
  ],
)
either_fails false b i j = (λ h. inl (i.0 refl), λ w. refl)

only : {P : Type 0} → P ⊎ ⊥ → P
only (inl p) = p
only (inr n) = absurd n

pub trimble_agrees : (s : List ℕ) → Agree (trimble_checks s) (trimble_lines s)
unfolding text_checks clock_checks yearly trimble_fields supported_day supported_date with_weekday sent_fields
trimble_agrees s =
    let a = agrees in_words s in (
      refl,
      a.1,
      λ one. let b = a.2 one in (
        refl,
        b.1,
        λ two. let c = b.2 two in (
          refl,
          c.1,
          λ three. let d = (c.2 three).2 (no_flag s one) in (
            refl,
            d.1,
            λ sum. let e = d.2 sum in (
              refl,
              e.1,
              λ valid. let y = e.2 valid in (
                refl,
                either_fails (in_years s) (has_date s) y.1 (λ years. (y.2 years).1),
                λ five.
                    let w = both (in_years s) (has_date s) (not-false _ five) in
                    let six = ((y.2 (ap not w.0)).2 (ap not w.1)).1 in
                    (refl, (λ h. only (six.0 h), λ x. six.1 (inl x)), λ six. tt),
              ),
            ),
          ),
        ),
      ),
    )
