use Rattle.demands.proofs.Demand1 as demand-1
use Rattle.demands.proofs.Demand2 as demand-2
use Rattle.demands.proofs.minutes.write_minute.Goals as goal

pub returns : goal.returns
returns c =
    let e = c.write_minute.ensures in record {
      demand_1 = rw e (demand-1.write_minute_lem _ _);
      demand_2 = rw e (demand-2.write_minute_lem _ _);
    }
