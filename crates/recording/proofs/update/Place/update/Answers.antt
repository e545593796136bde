-- The place is renewed, then the first gap after it.
use native.Mathlib.Omega.{arith}
use mathlib.Core.Path.{sym, ap, ◌∙◌}
use Rattle.recording.specs.Gaps.{gap_of}
use Rattle.recording.proofs.GapLaws.{after_in, before_first}
use Rattle.recording.proofs.OutcomeLaws.{differ_le}
use Rattle.recording.proofs.RecordingLaws.{update_none, update_gap}
use Rattle.recording.proofs.update.Place.update.Goals as goal

pub invariant_of-next : goal.invariant_of-next
invariant_of-next c =
    let e = sym c.gap_after.ensures ∙ ap gap_of c.in-Some.is in
    record { is_there = (after_in _ _ _ e).1; is_nearest = c.gap_up_to.ensures ∙ before_first _ _ _ e }

pub overflow_add-result : goal.overflow_add-result
overflow_add-result c =
    omega (arith, differ_le _ _ _ c.renew.ensures.count, differ_le _ _ _ c.renew-here.ensures.count)

pub returns-in-Some : goal.returns-in-Some
returns-in-Some c =
    let e = sym c.gap_after.ensures ∙ ap gap_of c.in-Some.is in
    let u =
    update_gap _ _ _ c.args.self.now.is_there c.requires _ _ _ _ _ e c.renew-here.ensures.outcomes
    c.renew-here.ensures.count
    c.renew.ensures.outcomes
    c.renew.ensures.count in
    record { outcomes = u.0; count = u.1 }

pub returns-in-None : goal.returns-in-None
returns-in-None c =
    let e = sym c.gap_after.ensures ∙ ap gap_of c.in-None.is in
    let u =
    update_none _ _ _ c.args.self.now.is_there c.requires _ _ e c.renew-here.ensures.outcomes
    c.renew-here.ensures.count in
    record { outcomes = u.0; count = u.1 }
