use Rattle.clock_time.proofs.WritingLaws.{writing_unrepresentable, writing_no_room, writing_room}
use Rattle.clock_time.proofs.write_bytes.Goals as goal

pub returns-then-not-representable : goal.returns-then-not-representable
returns-then-not-representable c =
    rw c.if-not-representable.true (writing_unrepresentable c.args.bytes.now c.args.out.now)

pub returns-then-out-bytes : goal.returns-then-out-bytes
returns-then-out-bytes c =
    rw c.if-not-representable.false (writing_no_room c.args.bytes.now c.args.out.now c.if-out-bytes.true)

pub returns : goal.returns
returns c =
    let room = writing_room c.args.bytes.now c.args.out.now c.if-out-bytes.false in
    let copied = c.copy_from_slice.ensures.after in
    rw c.if-not-representable.false cc
