use Rattle.demands.proofs.Demand1 as demand-1
use Rattle.demands.proofs.Demand2 as demand-2
use Rattle.demands.proofs.recordings.outcome_unix_time.Goals as goal

pub returns : goal.returns
returns c =
    let e = c.outcome_unix_time.ensures in record {
      demand_1 = rw e (demand-1.outcome_unix_time_lem _);
      answer = rw e (demand-2.outcome_unix_time_lem _);
    }
