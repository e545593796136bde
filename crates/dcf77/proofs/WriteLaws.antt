-- A run of marks is read back as a minute exactly if the minute's fields pass the writer's test.
use Prim.Native.Nat.{ℕ, ◌<◌}
use mathlib.Core.Path.{◌≡◌, refl, sym, ◌∙◌}
use mathlib.Core.Logic.{◌↔◌}
use mathlib.Core.Bool.{Bool, true, false, ◌&&◌, false≢true}
use mathlib.Core.List.{List}
use lib.Dec.{eqb}
use lib.ListN.{length}
use borrow.Author.Tests.{eq-eqb, lt-ltb}
use Rattle.clock_time.specs.Zone.{cet_offset}
use Rattle.clock_time.specs.Errors.{Answer, accepted, refused}
use Rattle.clock_time.specs.Same.{eq_ℤ}
use Rattle.clock_time.specs.Writing.{is_accepted, reads_back}
use Rattle.clock_time.proofs.FaithfulLaws.{read_text_lem}
use Rattle.clock_time.proofs.ExactLaws.{same_tests}
use Rattle.dcf77.specs.Marks.{long, binary, two_digits}
use Rattle.dcf77.specs.Minute.{announced, minute_fields, read_minute, minute_text, same_minute}
use Rattle.dcf77.specs.Writable.{fields_representable, minute_representable}
use Rattle.dcf77.specs.declared.MinuteTime.{MinuteTime}
use Rattle.dcf77.proofs.MarkLaws.{small_sure, binary_below}
use Rattle.dcf77.proofs.AcceptLaws.{KeepsRules, leap_passes, read_keeps, keeps_read, keeps_representable}
use Rattle.dcf77.proofs.FieldsLaws.{text_read}
use Rattle.dcf77.proofs.SameLaws.{same_minute_refl, same_minute_true}
use Rattle.dcf77.proofs.FitLaws.{fits}
use Rattle.dcf77.proofs.TextLaws.{fields_text, text_keeps}

-- ---- what is read passes
zone_passes : (summer : Bool)
    → eq_ℤ (cet_offset summer) (cet_offset summer) ≡ true
unfolding eq_ℤ
zone_passes true = refl
zone_passes false = refl

module _ (m : List ℕ) (k : KeepsRules m) where
  leap_told : length m ≡ 60 → (long 19 m && eqb (two_digits 21 3 m) 0) ≡ true
  unfolding announced
  leap_told e =
      let l = k.2 e in
      simp (eq-eqb _ _ l.0, eq-eqb _ _ l.2)

  fields_pass : minute_representable (minute_fields m) ≡ true
  unfolding minute_representable fields_representable minute_fields announced
  fields_pass =
      let marks : binary 14 1 m < 16384 = binary_below m (small_sure m k.0.sure) 14 1 in
      simp (
        keeps_representable m k,
        zone_passes (long 17 m),
        lt-ltb _ _ marks,
        leap_passes (length m) _ leap_told,
      )

-- ---- both ways
is_read : (r : Answer MinuteTime) (a : MinuteTime) → is_accepted same_minute r a ≡ true → r ≡ accepted a
is_read (accepted b) a h = rw (same_minute_true b a h)
is_read (refused k) a h = absurd (false≢true h)

reads_back_representable : (a : MinuteTime) → reads_back read_minute minute_text same_minute a ≡ true
    → minute_representable a ≡ true
unfolding reads_back
reads_back_representable a h =
    let w = read_keeps (minute_text a) a (is_read (read_minute (minute_text a)) a h) in
    rw w.1 (fields_pass (minute_text a) w.0)

representable_reads_back : (a : MinuteTime) → minute_representable a ≡ true
    → reads_back read_minute minute_text same_minute a ≡ true
unfolding reads_back
representable_reads_back a h =
    let w = fits a h in
    let read : read_minute (minute_text a) ≡ accepted a =
    rw (keeps_read (minute_text a) (text_keeps a w), fields_text a w) in
    rw read (same_minute_refl a)

pub reads_representable : (a : MinuteTime) → reads_back read_minute minute_text same_minute a ≡ minute_representable a
reads_representable a =
    same_tests _ (minute_representable a) (reads_back_representable a, representable_reads_back a) (λ h. h, λ h. h)

pub written_exactly : (m : List ℕ) (a : MinuteTime)
    → (read_minute m ≡ accepted a) ↔ ((minute_representable a ≡ true) × (minute_text a ≡ m))
unfolding reads_back
written_exactly m a = (
  λ h. let e = text_read m a h in (sym (reads_representable a) ∙ rw (e, h) (same_minute_refl a), e),
  λ w. rw w.1 at (read_text_lem read_minute minute_text same_minute same_minute_true a (reads_representable a ∙ w.0)),
)
