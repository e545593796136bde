-- A string is read exactly if it passes every check of its format, in whatever order.
use Prim.Native.Nat.{ℕ, ◌≤◌}
use mathlib.Core.Path.{◌≡◌, refl}
use mathlib.Core.Bool.{Bool, true, false, ◌||◌, true≢false}
use mathlib.Core.List.{List}
use lib.Dec.{lit<}
use borrow.Author.Tests.{not-false, eqb-true, eq-eqb, leb-true, le-leb}
use Rattle.clock_time.specs.Errors.{accepted, Passes}
use Rattle.clock_time.specs.declared.ClockTime.{ClockTime}
use Rattle.clock_time.proofs.ErrorLaws.{accepted_passes, passes_accepted, passes_both_lem, both_pass}
use Rattle.clock_time.proofs.Tests.{both}
use Rattle.calendar.specs.TimeOfDay.{time_exists}
use Rattle.layout.specs.Layout.{found, FitsLayout}
use Rattle.layout.specs.Text.{Format, clock_checks, text_checks, read_text}
use Rattle.layout.proofs.LayoutLaws.{none_found, fits_found}

-- a string with the layout l whose fields say the clock time t passes the checks that all formats share
pub record PassesClock (l : List ℕ) (supported : Bool) (t : ClockTime) (s : List ℕ) : Type 0 where
  pub fits : FitsLayout l s
  pub date : supported ≡ true
  pub time : time_exists t.hour t.minute t.second t.utc_offset ≡ true
  pub weekday_least : 1 ≤ t.weekday
  pub weekday_most : t.weekday ≤ 7

-- a string that passes: the rules that all formats share hold of it, and the format's own tests find no fault
pub record PassesText {A : Type 0} (f : Format A) (s : List ℕ) : Type 0 where
  pub clock : let t = f.clock (f.fields s) in PassesClock f.layout (f.supported t) t s
  pub flags : f.flag_fault s ≡ false
  pub own : Passes (f.own s)
  pub agrees : f.mismatch s ≡ false

pub neither : (a b : Bool) → (a || b) ≡ false → (a ≡ false) × (b ≡ false)
neither true b h = absurd (true≢false h)
neither false b h = (refl, h)

module _ {A : Type 0} (f : Format A) (s : List ℕ) where
  pub read_passes : (a : A) → read_text f s ≡ accepted a → PassesText f s × (a ≡ f.fields s)
  unfolding read_text text_checks clock_checks
  read_passes a h =
      let w = accepted_passes (text_checks f s) (f.fields s) a h in
      let p = w.0 in
      let r = p.1.1.1 in
      let o = passes_both_lem (f.own s) _ r.1 in
      let c = o.1 in
      let flags = neither (found 4 f.layout s) (f.flag_fault s) r.0 in
      let time = neither _ (f.mismatch s) c.1.0 in
      let weekday = both _ _ (not-false _ c.1.1.0) in (
        record {
          clock = record {
            fits = none_found f.layout s (eqb-true _ _ (not-false _ p.0)) p.1.0 p.1.1.0 flags.0;
            date = not-false _ c.0;
            time = not-false _ time.0;
            weekday_least = leb-true _ _ weekday.0;
            weekday_most = leb-true _ _ weekday.1;
          };
          flags = flags.1;
          own = o.0;
          agrees = time.1;
        },
        w.1,
      )

  pub passes_read : PassesText f s → read_text f s ≡ accepted (f.fields s)
  unfolding read_text text_checks clock_checks
  passes_read r =
      let fit = r.clock.fits in
      passes_accepted (text_checks f s) (f.fields s) (
        simp (eq-eqb _ _ fit.long),
        (
          fits_found 2 (lit< tt) fit,
          (
            fits_found 3 (lit< tt) fit,
            (
              simp (fits_found 4 (lit< tt) fit, r.flags),
              both_pass (f.own s) _ r.own (
                simp r.clock.date,
                (
                  simp (r.clock.time, r.agrees),
                  (simp (le-leb _ _ r.clock.weekday_least, le-leb _ _ r.clock.weekday_most), tt),
                ),
              ),
            ),
          ),
        ),
      )
