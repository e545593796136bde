use Rattle.std.proofs.Common.{ap, arith, ◌∙◌, rules}
use Rattle.clock_time.proofs.ListsLaws.{slice_known}
use Rattle.layout_words.specs.Words.{word, by_sample}
use Rattle.layout_words.proofs.MapLaws.{maps_each}
use Rattle.layout_words.proofs.join_by_sample.Goals as goal

pub returns : goal.returns
returns c =
    let sample = c.args.sample in
    let mapped = c.map.result in
    let by = by_sample c.args.digit c.args.any c.args.fixed in
    let each = maps_each _ by _ (λ x y q h. search rules) sample mapped 0 8 c.map.ensures.items.each in
    c.join.ensures
    ∙ ap word (slice_known 8 mapped (omega arith) ∙ rw (slice_known 8 sample (omega arith)) each)
