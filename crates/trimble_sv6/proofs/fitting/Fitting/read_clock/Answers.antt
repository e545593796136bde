use Rattle.std.proofs.lemmas.Result.{err_from_is_err_and}
use Rattle.trimble_sv6.proofs.TrimbleLaws.{read_clock_lem}
use Rattle.trimble_sv6.proofs.fitting.Fitting.read_clock.Goals as goal

pub returns-in_err-time : goal.returns-in_err-time
returns-in_err-time c =
    let answer = read_clock_lem c.args.self.s.now c.sent_fields.ensures c.check_without_weekday.ensures in
    let handed = err_from_is_err_and c.from_residual.result c.from_residual.ensures.1 in
    rw (handed.1, handed.2) (rw c.in_err-time.was at answer)

pub returns : goal.returns
returns c =
    let answer = read_clock_lem c.args.self.s.now c.sent_fields.ensures c.check_without_weekday.ensures in
    rw c.milliseconds.ensures (rw c.in_ok-time.was at answer)
