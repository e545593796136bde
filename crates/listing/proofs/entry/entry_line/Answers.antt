use Rattle.std.proofs.Common.{refl}
use Rattle.clock_time.specs.Lists.{ascii}
use Rattle.listing.specs.Items.{item_line}
use Rattle.listing.proofs.entry.entry_line.Goals as goal

pub returns-in-Nothing : goal.returns-in-Nothing
unfolding item_line
returns-in-Nothing c = rw (c.in-Nothing.is, c.new.ensures) refl

pub returns-in-String : goal.returns-in-String
returns-in-String c = rw c.in-String.is c.string_line.ensures

pub returns-in-Dropped : goal.returns-in-Dropped
unfolding item_line ascii
returns-in-Dropped c =
    let extended = rw c.unwrap.ensures at c.try_extend_from_slice.ensures.ok in
    rw (c.in-Dropped.is, extended, c.new-line.ensures) refl
