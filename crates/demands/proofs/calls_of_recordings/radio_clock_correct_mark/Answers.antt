use Rattle.demands.proofs.Demand1 as demand-1
use Rattle.demands.proofs.Demand3 as demand_3
use Rattle.demands.proofs.calls_of_recordings.radio_clock_correct_mark.Goals as goal

pub returns : goal.returns
returns c =
    let e = c.radio_clock_correct_mark.ensures in record {
      demand_1 = rw e (demand-1.c_correct_mark _ _ _ _ _);
      demand_3 = λ z. demand_3.c_correct_mark _ _ _ _ _ _ _ _ (rw z at e);
    }
