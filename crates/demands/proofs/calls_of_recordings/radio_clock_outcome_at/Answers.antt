use Rattle.demands.proofs.Demand1 as demand-1
use Rattle.demands.proofs.Demand3 as demand_3
use Rattle.demands.proofs.calls_of_recordings.radio_clock_outcome_at.Goals as goal

pub returns : goal.returns
returns c =
    let e = c.radio_clock_outcome_at.ensures in record {
      demand_1 = rw e (demand-1.c_outcome_at _ _ _);
      rule = rw e (demand_3.c_outcome_at _ _ _);
    }
