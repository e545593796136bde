use Rattle.std.proofs.Common.{rules}
use Rattle.listing.proofs.NextLineLaws.{next_within, lists_next}
use Rattle.listing.proofs.next_line.Goals as goal

pub entry_at-entry-requires : goal.entry_at-entry-requires
entry_at-entry-requires c =
    next_within c.args.listing c.args.s.now c.feed-fed.result c.feed-fed.ensures (search rules)

pub returns : goal.returns
returns c =
    lists_next c.args.listing c.args.s.now c.feed-fed.result c.feed-fed.ensures _ c.entry_at-entry.ensures _
    c.count-totals.ensures _ c.entry_line.ensures
