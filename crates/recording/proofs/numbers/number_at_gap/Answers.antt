use mathlib.Core.Path.{sym, ap, ◌∙◌}
use Rattle.recording.specs.Gaps.{gap_of}
use Rattle.recording.proofs.GapLaws.{before_is_nearest}
use Rattle.recording.proofs.numbers.number_at_gap.Goals as goal

pub number_between-requires : goal.number_between-requires
number_between-requires c =
    let h = c.requires in
    ((before_is_nearest _ _ _ (sym h.1 ∙ ap gap_of c.in-Some.is)).earlier, h.0)

pub returns-in-Some : goal.returns-in-Some
returns-in-Some c = rw c.in-Some.is c.number_between.ensures
