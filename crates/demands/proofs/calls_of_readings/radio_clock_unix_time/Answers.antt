use Rattle.demands.proofs.Demand1 as demand-1
use Rattle.demands.proofs.Demand2 as demand-2
use Rattle.demands.proofs.calls_of_readings.radio_clock_unix_time.Goals as goal

pub returns : goal.returns
returns c =
    let e = c.radio_clock_unix_time.ensures in record {
      demand_1 = rw e (demand-1.c_unix_time _ _);
      answer = rw e (demand-2.c_unix_time _ _);
    }
