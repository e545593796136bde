use Rattle.std.proofs.lemmas.Result.{err_from_is_err_and}
use Rattle.meinberg_gps.proofs.ReadLaws.{read_clock_lem}
use Rattle.meinberg_gps.proofs.fitting.Fitting.read_clock.Goals as goal

pub returns-in_err-time : goal.returns-in_err-time
returns-in_err-time c =
    let answer = read_clock_lem _ c.args.position c.clock.ensures c.has_leap_mismatch.ensures c.check_clock.ensures in
    let handed = err_from_is_err_and c.from_residual.result c.from_residual.ensures.1 in
    rw (handed.1, handed.2) (rw c.in_err-time.was at answer)

pub returns : goal.returns
returns c =
    let answer = read_clock_lem _ c.args.position c.clock.ensures c.has_leap_mismatch.ensures c.check_clock.ensures in
    rw c.in_ok-time.was at answer
