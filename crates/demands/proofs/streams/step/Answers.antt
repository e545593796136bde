use mathlib.Core.Path.{sym, ap, ◌∙◌}
use Rattle.framing.specs.declared.StepResult.{StepResult}
use Rattle.framing.proofs.Theorems as framing
use Rattle.demands.proofs.streams.step.Goals as goal

pub returns : goal.returns
returns c =
    let e = c.step.ensures in record {
      step = e;
      few = λ n h. framing.step_complete _ _ n (sym (ap (λ (x : StepResult). x.event) e) ∙ h);
    }
