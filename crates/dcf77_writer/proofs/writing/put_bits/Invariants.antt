-- The first bits are put, and `rest` has the others.
use Prim.Native.Nat.{◌-◌}
use mathlib.Core.Path.{◌≡◌}
use mathlib.Core.List.{◌++◌}
use lib.ListN.{length, take}
use Rattle.dcf77.specs.Marks.{bits}
use Rattle.dcf77_writer.proofs.writing.put_bits.Given as goal

abbrev pub invariant-loop-mark : goal.invariant-loop-mark
invariant-loop-mark l =
    (length l.mark-items ≡ 60) × (take l.mark-index l.mark-items ++ bits (60 - l.mark-index) l.rest ≡ bits 60 l.n)
