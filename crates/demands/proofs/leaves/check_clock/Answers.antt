use Rattle.demands.proofs.Demand1 as demand-1
use Rattle.demands.proofs.leaves.check_clock.Goals as goal

pub returns : goal.returns
returns c =
    record {
      demand_1 = rw c.check_clock.ensures (demand-1.check_clock _ _ _);
      answer = c.check_clock.ensures;
    }
