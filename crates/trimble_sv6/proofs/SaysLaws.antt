-- The reader of the Trimble string takes from it what it says.
use Rattle.std.proofs.Common.{◌≡◌, ℕ, ◌≤◌, true, false, not, ◌↔◌, List, [], ◌∷◌, ◌++◌, sym, refl, ◌∙◌}
use Rattle.clock_time.specs.Errors.{given}
use Rattle.clock_time.specs.Lists.{ascii}
use Rattle.clock_time.specs.Order.{line}
use Rattle.clock_time.proofs.ErrorLaws.{checked_after, checked_split}
use Rattle.clock_time.proofs.ExactLaws.{eq_exactly, le_exactly, both_exactly, not_exactly, passes_exactly}
use Rattle.gregorian.specs.Date.{date_exists, supported_date}
use Rattle.gregorian.proofs.RulesLaws.{date_exactly}
use Rattle.gregorian.specs.Rules.{GregorianDate}
use Rattle.calendar.specs.Date.{with_weekday, weekday_or_zero}
use Rattle.calendar.specs.Days.{OnWeekday}
use Rattle.calendar.proofs.DaysLaws.{weekday_or_zero_lem}
use Rattle.layout.specs.Layout.{number}
use Rattle.layout.specs.Text.{Format, supported_day, clock_checks, text_checks, read_text}
use Rattle.layout.specs.Lines.{OwnFaults}
use Rattle.layout.specs.Says.{Stands}
use Rattle.layout.proofs.SaysLaws.{two_digits_lem}
use Rattle.layout.proofs.ExactLaws.{InWords, never}
use Rattle.trimble_sv6.specs.Trimble.{trimble_layout, sent_fields, milliseconds_of, trimble_fields, trimble}
use Rattle.trimble_sv6.specs.Says.{trimble_picture, four_digits_at, SumRules, YearRules, RulesTrimble, SaysTrimble}
use Rattle.trimble_sv6.specs.declared.TrimbleTime.{TrimbleTime}
use Rattle.trimble_sv6.proofs.Checks.{shape_checks, flag_check, own_checks, in_years, has_date, date_check, time_check}
use Rattle.trimble_sv6.proofs.Checks.{weekday_check}
use Rattle.trimble_sv6.proofs.SumLaws.{sum_exactly}
use Rattle.trimble_sv6.proofs.TrimbleLaws.{three_digits, four_digits}

-- ---- the years as a check of their own
pub years_exactly : (s : List ℕ) → (in_years s ≡ true) ↔ YearRules s
years_exactly s =
    let y = four_digits_at s 17 in
    let test : (in_years s ≡ true) ↔ ((1970 ≤ y) × (y ≤ 2069)) =
    rw (four_digits s 17) (both_exactly _ _ (le_exactly 1970 y) (le_exactly y 2069)) in (
      λ h. let w = test.0 h in record { least = w.0; most = w.1 },
      λ r. test.1 (r.least, r.most),
    )

-- the format with this check, after which the date line speaks of any year
unfoldable pub yearly : Format TrimbleTime
yearly =
    record {
      layout = trimble_layout;
      flag_fault = λ s. false;
      own = λ s. own_checks s ++ (given 5 (not (in_years s)) ∷ []);
      supported = λ t. date_exists t.year t.month t.day;
      mismatch = λ s. false;
      fields = trimble_fields;
      clock = λ g. g.time;
    }

-- it reads as the format does
pub read_yearly : (s : List ℕ) → read_text trimble s ≡ read_text yearly s
unfolding read_text text_checks clock_checks trimble yearly trimble_fields supported_day supported_date with_weekday sent_fields
read_yearly s =
    let later = time_check s ∷ weekday_check s ∷ [] in
    checked_after (shape_checks s ++ (flag_check s ∷ own_checks s)) (date_check s ∷ later)
    (given 5 (not (in_years s)) ∷ given 5 (not (has_date s)) ∷ later) (trimble_fields s)
    (checked_split 5 (in_years s) (has_date s) later (trimble_fields s))

-- ---- the fields
-- the weekday of a date of these years
weekday_exactly : (s : List ℕ) → YearRules s → (w : ℕ) → let y = number 4 17 s in
    let m = number 2 15 s in let d = number 2 13 s in (w ≡ weekday_or_zero y m d)
    ↔ ((GregorianDate y m d → OnWeekday y m d w) × ((GregorianDate y m d → ⊥) → w ≡ 0))
weekday_exactly s r w =
    weekday_or_zero_lem (number 4 17 s) (number 2 15 s) (number 2 13 s) w (rw (four_digits s 17) r.least)
    (rw (four_digits s 17) r.most)

fields_say : (s : List ℕ) → YearRules s → SaysTrimble s (trimble_fields s)
unfolding trimble_fields with_weekday sent_fields milliseconds_of
fields_say s r =
    let weekday = (weekday_exactly s r _).0 refl in
    record {
      hour = two_digits_lem s 4;
      minute = two_digits_lem s 6;
      second = two_digits_lem s 8;
      milliseconds = three_digits s 10;
      day = two_digits_lem s 13;
      month = two_digits_lem s 15;
      year = four_digits s 17;
      weekday = weekday.0;
      no_date = weekday.1;
      offset = refl;
      unsynchronised = refl;
      unverified = refl;
      summer_time = refl;
      change_coming = refl;
      leap_second_coming = refl;
      antenna = refl;
    }

said_fields : (s : List ℕ) (g : TrimbleTime) → YearRules s → SaysTrimble s g → g ≡ trimble_fields s
unfolding trimble_fields with_weekday sent_fields milliseconds_of
said_fields s g r h =
    let t = g.time in
    let year = h.year ∙ sym (four_digits s 17) in
    let month = h.month ∙ sym (two_digits_lem s 15) in
    let day = h.day ∙ sym (two_digits_lem s 13) in
    let weekday = (weekday_exactly s r t.weekday).1
    (rw (year, month, day) at h.weekday, rw (year, month, day) at h.no_date) in
    λ i.
    record {
      time = record {
        year = year i;
        month = month i;
        day = day i;
        weekday = weekday i;
        hour = (h.hour ∙ sym (two_digits_lem s 4)) i;
        minute = (h.minute ∙ sym (two_digits_lem s 6)) i;
        second = (h.second ∙ sym (two_digits_lem s 8)) i;
        utc_offset = h.offset i;
        unsynchronised = h.unsynchronised i;
        unverified = h.unverified i;
        summer_time = h.summer_time i;
        dst_change_announced = h.change_coming i;
        leap_second_announced = h.leap_second_coming i;
        alternate_antenna = h.antenna i;
      };
      milliseconds = (h.milliseconds ∙ sym (three_digits s 10)) i;
    }

-- ---- the format in words
abbrev pub yearly_faults : OwnFaults
yearly_faults =
    record {
      Flags = λ s. ⊥;
      lines = λ s.
          line 24 (SumRules s → ⊥) ∷ line 25 (Stands s 26 "1" → ⊥) ∷ line 5 (YearRules s → ⊥) ∷ [];
      Time = λ s. ⊥;
    }

pub in_words : InWords yearly trimble_picture yearly_faults RulesTrimble SaysTrimble
unfolding yearly trimble_layout ascii trimble_fields with_weekday sent_fields
in_words =
    record {
      picture = record { same = refl; bytes = refl };
      flags = λ s. never;
      lines = λ s. (
        refl,
        not_exactly _ (sum_exactly s),
        λ sum. (refl, not_exactly _ (eq_exactly _ _), λ valid. (refl, not_exactly _ (years_exactly s), λ years. tt)),
      );
      dated = λ s. date_exactly _ _ _;
      time = λ s. never;
      rules = λ s. (
        λ r. record {
          flags = refl;
          own = (
            (passes_exactly _ (sum_exactly s)).1 r.check_sum,
            (
              (passes_exactly _ (eq_exactly _ _)).1 r.valid,
              ((passes_exactly _ (years_exactly s)).1 r.years, tt),
            ),
          );
          agrees = refl;
        },
        λ n. record {
          check_sum = (passes_exactly _ (sum_exactly s)).0 n.own.0;
          valid = (passes_exactly _ (eq_exactly _ _)).0 n.own.1.0;
          years = (passes_exactly _ (years_exactly s)).0 n.own.1.1.0;
        },
      );
      fields_say = λ s l. fields_say s ((passes_exactly _ (years_exactly s)).0 l.own.1.1.0);
      said_fields = λ s g l h. said_fields s g ((passes_exactly _ (years_exactly s)).0 l.own.1.1.0) h;
    }
