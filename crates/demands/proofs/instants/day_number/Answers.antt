use Rattle.demands.proofs.Demand1 as demand-1
use Rattle.demands.proofs.Demand2 as demand-2
use Rattle.demands.proofs.instants.day_number.Goals as goal

pub returns : goal.returns
returns c =
    let e = c.day_number.ensures in record {
      demand_1 = rw e (demand-1.day_number_lem _ _ _);
      answer = rw e (demand-2.day_number_lem _ _ _);
    }
