use Rattle.demands.proofs.Demand1 as demand-1
use Rattle.demands.proofs.Demand2 as demand-2
use Rattle.demands.proofs.strings.read.Goals as goal

pub returns : goal.returns
returns c =
    let e = c.read.ensures in record {
      demand_1 = rw e (demand-1.read_by_kind _ _);
      demand_2 = rw e (demand-2.read_by_kind _ _);
    }
