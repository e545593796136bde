use Rattle.demands.proofs.Demand1 as demand-1
use Rattle.demands.proofs.Demand3 as demand_3
use Rattle.demands.proofs.recordings.outcome_at.Goals as goal

pub returns : goal.returns
returns c =
    let e = c.outcome_at.ensures in record {
      demand_1 = rw e (demand-1.outcome_at_lem _ _);
      rule = rw e (demand_3.outcome_at_lem _ _);
    }
