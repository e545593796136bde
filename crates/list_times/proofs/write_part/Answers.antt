use native.Mathlib.Omega.{arith}
use mathlib.Core.Path.{sym, refl}
use lib.Seq.{length-take-le}
use Rattle.std.proofs.lemmas.Result.{IfOk-from_err}
use Rattle.listing.proofs.CallsLaws.{listed_within, listed_text, listed_fits}
use Rattle.list_times.proofs.ProgressLaws.{takes}
use Rattle.list_times.proofs.write_part.Goals as goal

pub slice_bounds-write_text-end : goal.slice_bounds-write_text-end
slice_bounds-write_text-end c =
    sym (length-take-le _ _ (listed_within _ _ _ _ c.list-listed.result c.list-listed.ensures))

pub shared_ref_as_front-write_text : goal.shared_ref_as_front-write_text
shared_ref_as_front-write_text c =
    omega (arith, listed_fits _ _ _ _ c.list-listed.result c.list-listed.ensures)

pub write_text-requires : goal.write_text-requires
write_text-requires c = listed_text _ _ _ _ c.list-listed.result c.list-listed.ensures

pub returns-in_err-write_text : goal.returns-in_err-write_text
returns-in_err-write_text c =
    takes _ _ _ _ c.list-listed.result c.list-listed.ensures (omega arith) _
    (IfOk-from_err _ _ c.from_residual.ensures.0)

pub returns : goal.returns
returns c = takes _ _ _ _ c.list-listed.result c.list-listed.ensures (omega arith) _ refl
