use Rattle.list_times.proofs.ProgressLaws.{passed_none, passed_more, passed_part}
use Rattle.list_times.proofs.write_lines.Goals as goal

pub loop-rest-init : goal.loop-rest-init
loop-rest-init c = passed_none _ _

pub returns-in_err-taken : goal.returns-in_err-taken
returns-in_err-taken c =
    passed_part _ _ _ _ _ _ c.loop-rest.invariant c.write_part.ensures _ c.from_residual.ensures.0

pub loop-rest-preserved : goal.loop-rest-preserved
loop-rest-preserved c =
    passed_more _ _ _ _ _ _ c.loop-rest.invariant c.in_ok-taken.ensures _ c.in_ok-taken.ensures.told
