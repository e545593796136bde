use Rattle.demands.proofs.Demand1 as demand-1
use Rattle.demands.proofs.Demand3 as demand_3
use Rattle.demands.proofs.recordings.fill_outcomes.Goals as goal

pub returns : goal.returns
returns c =
    let e = c.fill_outcomes.ensures in record {
      demand_1 = rw e (demand-1.fill_outcomes_lem _ _);
      rule = λ h. demand_3.fill_outcomes_lem _ _ _ (rw h at e);
    }
