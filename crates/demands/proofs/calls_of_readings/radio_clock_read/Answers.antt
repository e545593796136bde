use Rattle.demands.proofs.Demand1 as demand-1
use Rattle.demands.proofs.Demand2 as demand-2
use Rattle.demands.proofs.calls_of_readings.radio_clock_read.Goals as goal

pub returns : goal.returns
returns c =
    let e = c.radio_clock_read.ensures in record {
      demand_1 = λ k q. rw (e, q) (demand-1.c_read k _ _);
      unknown_kind = λ none. rw e (demand-1.c_read_unknown _ _ _ none);
      demand_2 = rw e (demand-2.c_read _ _ _);
    }
