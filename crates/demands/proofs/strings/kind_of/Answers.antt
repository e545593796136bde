use Rattle.demands.proofs.Demand1 as demand-1
use Rattle.demands.proofs.Demand2 as demand-2
use Rattle.demands.proofs.strings.kind_of.Goals as goal

pub returns : goal.returns
returns c =
    let e = c.kind_of.ensures in record {
      demand_1 = rw e (demand-1.tell_kind _);
      answer = rw e (demand-2.tell_kind _);
    }
