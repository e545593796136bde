use Rattle.std.proofs.Common.{◌≡◌, rules, Err}
use Rattle.meinberg_standard.specs.Standard.{read_standard}
use Rattle.meinberg_pzf.specs.Pzf.{read_pzf}
use Rattle.meinberg_gps.specs.Gps.{read_gps, written_gps}
use Rattle.elv_dcf7000.specs.Elv.{read_elv}
use Rattle.time_string.specs.Row.{without_position, with_position}
use Rattle.time_string.specs.Kind.{read_as}
use Rattle.c_numbers.specs.Numbers.{put_answer}
use Rattle.c_readings.specs.Strings.{read_into, read_numbered}
use Rattle.c_readings.proofs.StringLaws.{shaped_put}
use Rattle.c_readings.proofs.strings.read_into.Goals as goal

pub returns-in_err-try_from : goal.returns-in_err-try_from
unfolding read_into read_numbered put_answer
returns-in_err-try_from c =
    let refused : c.from_residual.result ≡ Err c.in_err-try_from.field-0.0 = search rules in
    rw (refused, ← c.in_err-try_from.ensures)

pub returns-in-Standard : goal.returns-in-Standard
unfolding read_into read_numbered read_as read_standard
returns-in-Standard c =
    rw (← c.in_ok-try_from.ensures, c.in-Standard.is, ← c.read_standard.ensures, ← (shaped_put _ without_position _))
    c.put_answer.ensures

pub returns-in-Pzf : goal.returns-in-Pzf
unfolding read_into read_numbered read_as read_pzf
returns-in-Pzf c =
    rw (← c.in_ok-try_from.ensures, c.in-Pzf.is, ← c.read_pzf.ensures, ← (shaped_put _ without_position _))
    c.put_answer-in-Pzf.ensures

pub returns-in-Gps : goal.returns-in-Gps
unfolding read_into read_numbered read_as read_gps written_gps
returns-in-Gps c =
    rw (← c.in_ok-try_from.ensures, c.in-Gps.is, ← c.read_gps.ensures, ← (shaped_put _ with_position _))
    c.put_answer-in-Gps.ensures

pub returns-in-Elv : goal.returns-in-Elv
unfolding read_into read_numbered read_as read_elv
returns-in-Elv c =
    rw (← c.in_ok-try_from.ensures, c.in-Elv.is, ← c.read_elv.ensures, ← (shaped_put _ without_position _))
    c.put_answer-in-Elv.ensures
