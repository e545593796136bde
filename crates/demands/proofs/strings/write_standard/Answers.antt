use Rattle.demands.proofs.Demand1 as demand-1
use Rattle.demands.proofs.Demand2 as demand-2
use Rattle.demands.proofs.strings.write_standard.Goals as goal

pub returns : goal.returns
returns c =
    let e = c.write_standard.ensures in record {
      demand_1 = rw e (demand-1.write_standard_lem _ _);
      demand_2 = rw e (demand-2.write_standard_lem _ _);
    }
