use mathlib.Core.Path.{sym, ◌∙◌}
use Rattle.std.proofs.lemmas.Result.{err_from_is_err_and}
use Rattle.meinberg_gps.proofs.ReadLaws.{read_offset, read_placed}
use Rattle.meinberg_gps.proofs.fitting.Fitting.read.Goals as goal

pub returns-then-has_offset_fault : goal.returns-then-has_offset_fault
returns-then-has_offset_fault c =
    sym (read_offset c.args.self.fits (sym c.has_offset_fault.ensures ∙ c.if-has_offset_fault.true))

pub returns-in_err-position : goal.returns-in_err-position
returns-in_err-position c =
    let read = read_placed c.args.self.fits (sym c.has_offset_fault.ensures ∙ c.if-has_offset_fault.false) in
    let handed = err_from_is_err_and c.from_residual.result c.from_residual.ensures.1 in
    rw (handed.1, handed.2) (sym (rw (← c.read_position.ensures, c.in_err-position.was) at read))

pub returns : goal.returns
returns c =
    let read = read_placed c.args.self.fits (sym c.has_offset_fault.ensures ∙ c.if-has_offset_fault.false) in
    c.read_clock.ensures ∙ sym (rw (← c.read_position.ensures, c.in_ok-position.was) at read)
