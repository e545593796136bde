use native.Mathlib.Omega.{arith}
use native.Mathlib.Nat.{mod-eq_of_lt}
use Prim.Native.Nat.{◌+◌, ◌%◌, ◌^◌, ◌<◌}
use mathlib.Core.Path.{◌≡◌, refl, ap}
use mir.Val.{bool_byte}
use Rattle.std.proofs.Common.{Result, Ok, Err, add-zero}
use Rattle.std.specs.Result.{is_err}
use Rattle.clock_time.specs.Reading.{answer_of}
use Rattle.clock_time.specs.declared.ClockTime.{ClockTime}
use Rattle.clock_time.specs.declared.Error.{Error}
use Rattle.listing_lines.specs.declared.Totals.{Totals}
use Rattle.listing.specs.Items.{string, one_more, counted}
use Rattle.listing.proofs.entry.count.Goals as goal

-- a refused string counts in `refused` too
counted_string : (t : Totals) (a : Result ClockTime Error) → t.refused < 2 ^ 64
    → record {
      frames = one_more t.frames;
      refused = (t.refused + bool_byte (is_err a)) % 2 ^ 64;
      dropped = t.dropped;
    } ≡ counted t (string (answer_of a))
unfolding counted
counted_string t (Ok a) small =
    ap (λ n. record { frames = one_more t.frames; refused = n; dropped = t.dropped })
    (simp (add-zero, mod-eq_of_lt small))
counted_string t (Err e) small = refl

pub returns-in-Nothing : goal.returns-in-Nothing
unfolding counted
returns-in-Nothing c = simp c.in-Nothing.is

pub returns-in-String : goal.returns-in-String
returns-in-String c =
    rw (c.in-String.is, c.from.ensures, c.is_err.ensures.value) (counted_string _ c.in-String.answer (omega arith))

pub returns-in-Dropped : goal.returns-in-Dropped
unfolding counted
returns-in-Dropped c = simp c.in-Dropped.is
