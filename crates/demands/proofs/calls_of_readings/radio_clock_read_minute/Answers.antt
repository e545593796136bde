use Rattle.demands.proofs.Demand1 as demand-1
use Rattle.demands.proofs.Demand2 as demand-2
use Rattle.demands.proofs.calls_of_readings.radio_clock_read_minute.Goals as goal

pub returns : goal.returns
returns c =
    let e = c.radio_clock_read_minute.ensures in record {
      demand_1 = rw e (demand-1.c_read_minute _ _);
      demand_2 = rw e (demand-2.c_read_minute _ _);
    }
