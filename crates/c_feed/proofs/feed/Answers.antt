use borrow.Author.Rules.{rules}
use native.Mathlib.Omega.{arith}
use lib.ListN.{length}
use borrow.Author.Tests.{lt-ltb}
use Rattle.c_feed.specs.Feed.{feed_state}
use Rattle.c_feed.proofs.FeedLaws.{fed_small, feed_done}
use Rattle.c_feed.proofs.feed.Goals as goal

pub returns-then-state-lt68 : goal.returns-then-state-lt68
unfolding feed_state
returns-then-state-lt68 c = simp (lt-ltb (length c.args.state.now) 68 (omega arith))

pub store-requires : goal.store-requires
store-requires c =
    let small = fed_small c.args.state.now _ _ _ (search rules) c.load.ensures c.feed-fed.ensures in
    (omega arith, small.0)

pub event_number-requires : goal.event_number-requires
event_number-requires c = (fed_small c.args.state.now _ _ _ (search rules) c.load.ensures c.feed-fed.ensures).1

pub returns : goal.returns
returns c =
    feed_done c.args.state.now _ c.args.s.now c.args.limit _ _ _ (omega arith) c.load.ensures c.feed-fed.ensures
    c.store.ensures c.event_number.ensures
