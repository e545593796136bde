use borrow.Author.Rules.{rules}
use mathlib.Core.Path.{◌≡◌}
use lib.ListN.{length}
use Rattle.c_numbers.proofs.NumberLaws.{first_no_room, first_room}
use Rattle.c_numbers.proofs.put_first.Goals as goal

pub returns-then-fields-count : goal.returns-then-fields-count
returns-then-fields-count c =
    let long : length c.args.more ≡ 3 = search rules in
    first_no_room c.args.t c.args.more c.args.fields.now c.args.count long c.requires c.if-fields-count.true

pub returns : goal.returns
returns c =
    let long : length c.args.more ≡ 3 = search rules in
    rw (c.copy_from_slice.ensures.after, c.numbers_with-numbers.ensures)
    (first_room c.args.t c.args.more c.args.fields.now c.args.count long c.requires c.if-fields-count.false)
