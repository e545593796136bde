use Rattle.std.proofs.Common.{ap, ◌+◌, ◌≤◌, length, take, ◌∙◌, arith}
use Rattle.layout_words.specs.Words.{word}
use Rattle.layout_words.proofs.WordLaws.{no_bytes, enough_bytes, slice_taken}
use Rattle.layout_words.proofs.word_at.Goals as goal

pub returns-in-Some-first_chunk : goal.returns-in-Some-first_chunk
returns-in-Some-first_chunk c =
    let at = c.args.at in
    let s = c.args.s.now in
    let cut = c.in-Some.ensures.cases in
    let chunk = c.in-Some-first_chunk.ensures.cases in
    let room : at + 8 ≤ length s = omega (arith, chunk.enough, cut.4) in
    rw (enough_bytes at s room)
    (c.join.ensures ∙ ap word (chunk.same ∙ ap (take 8) cut.2 ∙ slice_taken 8 at s room))

pub returns-in_default-first_chunk : goal.returns-in_default-first_chunk
unfolding word
returns-in_default-first_chunk c =
    let cut = c.in-Some.ensures.cases in
    rw (no_bytes c.args.at c.args.s.now (omega (arith, cut.4, c.in_default-first_chunk.ensures.cases)))

pub returns-in_default : goal.returns-in_default
unfolding word
returns-in_default c = rw (no_bytes c.args.at c.args.s.now (omega (arith, c.in_default.ensures.cases)))
