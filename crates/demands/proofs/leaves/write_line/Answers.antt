use Rattle.demands.proofs.Demand1 as demand-1
use Rattle.demands.proofs.leaves.write_line.Goals as goal

pub returns : goal.returns
returns c =
    let e = c.write_line.ensures in record {
      demand_1 = rw e (demand-1.write_line_lem _ _);
      answer = e;
    }
