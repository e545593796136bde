-- The test that two minutes are the same is right.
use mathlib.Core.Path.{◌≡◌, refl}
use mathlib.Core.Bool.{true, ◌&&◌, beq}
use lib.Dec.{eqb}
use borrow.Author.Tests.{eq-eqb, eqb-true}
use Rattle.clock_time.specs.Same.{same_time}
use Rattle.clock_time.proofs.SameLaws.{beq_refl, beq_true, same_time_refl, same_time_true}
use Rattle.clock_time.proofs.Tests.{both}
use Rattle.dcf77.specs.Minute.{same_minute}
use Rattle.dcf77.specs.declared.MinuteTime.{MinuteTime}

pub same_minute_refl : (a : MinuteTime) → same_minute a a ≡ true
unfolding same_minute
same_minute_refl a = simp (same_time_refl, eq-eqb a.detail.first_marks a.detail.first_marks refl, beq_refl)

pub same_minute_true : (a b : MinuteTime) → same_minute a b ≡ true → a ≡ b
unfolding same_minute
same_minute_true a b h =
    let last = both (same_time a.time b.time && eqb a.detail.first_marks b.detail.first_marks)
    (beq a.detail.sixty b.detail.sixty) h in
    let w = both (same_time a.time b.time) (eqb a.detail.first_marks b.detail.first_marks) last.0 in
    λ i.
    record {
      time = same_time_true a.time b.time w.0 i;
      detail =
          record {
            first_marks = eqb-true a.detail.first_marks b.detail.first_marks w.1 i;
            sixty = beq_true a.detail.sixty b.detail.sixty last.1 i;
          };
    }
