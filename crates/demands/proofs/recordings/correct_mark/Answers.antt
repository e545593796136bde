use Rattle.demands.proofs.Demand1 as demand-1
use Rattle.demands.proofs.Demand3 as demand_3
use Rattle.demands.proofs.recordings.correct_mark.Goals as goal

pub returns : goal.returns
returns c =
    let e = c.correct_mark.ensures in record {
      demand_1 = rw e (demand-1.correct_mark_lem _ _ _ _);
      demand_3 = λ count h. demand_3.correct_mark_lem _ _ _ _ _ _ count (rw h at e);
    }
