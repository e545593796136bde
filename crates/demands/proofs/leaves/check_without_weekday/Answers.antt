use Rattle.demands.proofs.Demand1 as demand-1
use Rattle.demands.proofs.leaves.check_without_weekday.Goals as goal

pub returns : goal.returns
returns c = let e = c.check_without_weekday.ensures in record {
  demand_1 = rw e (demand-1.check_clock _ _ _);
  answer = e;
}
