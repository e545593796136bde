-- A run for each mode.
use Rattle.framing.proofs.PlainLaws.{taken_still}
use Rattle.framing.proofs.StepLaws.{mode_more, mode_outside, still_outside, still_overlong}
use Rattle.framing.proofs.Framer.pass.Goals as goal

pub returns-then-self-gt-ROOM : goal.returns-then-self-gt-ROOM
returns-then-self-gt-ROOM c =
    let outside = mode_more _ _ c.if-self-gt-ROOM.true in
    taken_still _ 2 (still_outside _ outside) _ _ c.before-then-self-gt-ROOM.ensures.before

pub returns-in-Outside : goal.returns-in-Outside
returns-in-Outside c =
    taken_still _ 2 (still_outside _ (simp (c.in-Outside.is, mode_outside))) _ _ c.before-in-Outside.ensures.before

pub returns-in-Overlong : goal.returns-in-Overlong
returns-in-Overlong c =
    taken_still _ 3 (still_overlong _ c.in-Overlong.is c.if-self-gt-ROOM.false) _ _ c.plain_run.ensures.before
