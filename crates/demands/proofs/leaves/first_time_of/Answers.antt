use Rattle.demands.proofs.Demand1 as demand-1
use Rattle.demands.proofs.leaves.first_time_of.Goals as goal

pub returns : goal.returns
returns c =
    record {
      demand_1 = rw c.first_time_of.ensures (demand-1.first_time_of_lem c.args.z.now);
      answer = c.first_time_of.ensures;
    }
