use mathlib.Core.Path.{refl}
use mathlib.Core.List.{[]}
use Rattle.listing.specs.Listing.{after}
use Rattle.list_times.proofs.ProgressLaws.{reaches_more}
use Rattle.list_times.proofs.list_input.Goals as goal

pub loop-init : goal.loop-init
unfolding after
loop-init g c = ([], refl)

pub returns-in_err-write_lines : goal.returns-in_err-write_lines
returns-in_err-write_lines g c =
    reaches_more _ _ _ _ c.write_lines.result c.loop.invariant c.write_lines.ensures

pub loop-preserved : goal.loop-preserved
loop-preserved g c = reaches_more _ _ _ _ c.write_lines.result c.loop.invariant c.write_lines.ensures
