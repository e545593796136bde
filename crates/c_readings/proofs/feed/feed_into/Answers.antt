use Rattle.std.proofs.Common.{◌≡◌, rules, Err}
use Rattle.c_feed.proofs.FeedLaws.{feed_behind}
use Rattle.c_readings.proofs.feed.feed_into.Goals as goal

pub returns-in_err-fed : goal.returns-in_err-fed
returns-in_err-fed c =
    let refused : c.from_residual.result ≡ Err c.in_err-fed.field-0.0 = search rules in
    rw refused (feed_behind _ _ _ _ _ _ _ c.in_err-fed.ensures)

pub returns : goal.returns
returns c = feed_behind _ _ _ _ _ _ _ c.in_ok-fed.ensures
