use Rattle.demands.proofs.Demand1 as demand-1
use Rattle.demands.proofs.leaves.time_of.Goals as goal

pub returns : goal.returns
returns c =
    record {
      demand_1 = rw c.from_numbers.ensures (demand-1.time_of_lem c.args.z.now);
      answer = c.from_numbers.ensures;
    }
