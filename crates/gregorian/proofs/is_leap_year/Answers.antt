use Rattle.std.proofs.Common.{sym, refl, leb-true}
use Rattle.clock_time.proofs.Tests.{both}
use Rattle.gregorian.specs.Date.{is_leap_year}
use Rattle.gregorian.proofs.DateLaws.{every_fourth}
use Rattle.gregorian.proofs.is_leap_year.Goals as goal

pub returns-then-year : goal.returns-then-year
returns-then-year c =
    let h = both _ _ c.if-year.true in
    sym (every_fourth _ (leb-true _ _ h.0) (leb-true _ _ h.1))

pub returns : goal.returns
unfolding is_leap_year
returns c = refl
