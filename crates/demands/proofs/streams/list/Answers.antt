use Rattle.demands.proofs.StreamLaws as streams
use Rattle.demands.proofs.streams.list.Goals as goal

pub returns : goal.returns
returns c =
    let e = c.list.ensures in record {
      answer = e;
      lists = rw e (streams.lists _ _ _);
    }
