use mathlib.Core.Path.{sym, ap, ◌∙◌}
use Rattle.framing.specs.declared.FeedResult.{FeedResult}
use Rattle.framing.proofs.Theorems as framing
use Rattle.demands.proofs.streams.feed.Goals as goal

pub returns : goal.returns
returns c =
    let e = c.feed.ensures in record {
      steps = rw e (framing.feed_by_steps _ _ _);
      few = λ n h. framing.feed_complete _ _ n (sym (ap (λ (x : FeedResult). x.event) e) ∙ h);
    }
