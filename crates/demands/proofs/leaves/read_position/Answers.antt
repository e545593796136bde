use Rattle.demands.proofs.Demand1 as demand-1
use Rattle.demands.proofs.Demand2 as demand-2
use Rattle.demands.proofs.leaves.read_position.Goals as goal

pub returns : goal.returns
returns c =
    let e = c.read_position.ensures in record {
      demand_1 = rw e (demand-1.read_position_lem _);
      answer = rw e (demand-2.read_position_lem _);
    }
