use Rattle.demands.proofs.Demand1 as demand-1
use Rattle.demands.proofs.StreamLaws as streams
use Rattle.demands.proofs.calls_of_readings.radio_clock_feed.Goals as goal

pub returns : goal.returns
returns c =
    let e = c.radio_clock_feed.ensures in record {
      demand_1 = rw e (demand-1.c_feed _ _ _);
      feed = λ z. streams.feeds _ _ _ _ _ _ (rw z at e);
    }
