use Rattle.demands.proofs.Demand1 as demand-1
use Rattle.demands.proofs.Demand2 as demand-2
use Rattle.demands.proofs.instants.weekday_of.Goals as goal

pub returns : goal.returns
returns c =
    let e = c.weekday_of.ensures in record {
      demand_1 = rw e (demand-1.weekday _ _ _);
      answer = rw e (demand-2.weekday _ _ _);
    }
