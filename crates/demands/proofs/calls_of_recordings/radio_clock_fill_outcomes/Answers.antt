use Rattle.demands.proofs.Demand1 as demand-1
use Rattle.demands.proofs.Demand3 as demand_3
use Rattle.demands.proofs.calls_of_recordings.radio_clock_fill_outcomes.Goals as goal

pub returns : goal.returns
returns c =
    let e = c.radio_clock_fill_outcomes.ensures in record {
      demand_1 = rw e (demand-1.c_fill_outcomes _ _);
      rule = λ z. demand_3.c_fill_outcomes _ _ _ (rw z at e);
    }
