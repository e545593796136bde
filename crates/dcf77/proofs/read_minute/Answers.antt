-- The checks are gone through part by part.
use Rattle.std.proofs.Common.{sym, ap, ◌∙◌}
use Rattle.std.specs.Prelude.{ℕ, Result, Ok, Err}
use mathlib.Core.Bool.{not}
use Rattle.clock_time.specs.Errors.{refused, error_number}
use Rattle.clock_time.specs.declared.Error.{Error}
use Rattle.dcf77.specs.Minute.{read_minute, minute_checks}
use Rattle.dcf77.specs.declared.marks.SureRun.{SureRun}
use Rattle.dcf77.proofs.CheckLaws.{length_between, refused_by, marks_of}
use Rattle.dcf77.proofs.CheckLaws.{in_start, in_numbers, in_date, in_time, none_fails}
use Rattle.dcf77.proofs.read_minute.Goals as goal

pub returns-then-not-m : goal.returns-then-not-m
unfolding read_minute minute_checks
returns-then-not-m c = simp c.if-not-m.true

pub new-requires : goal.new-requires
new-requires c = length_between _ (ap not c.if-not-m.false)

abbrev number_in : Result SureRun Error → ℕ
number_in (Ok r) = 0
number_in (Err e) = error_number e

pub returns-in_err-run : goal.returns-in_err-run
unfolding read_minute minute_checks
returns-in_err-run c =
    let known = sym c.new.ensures.known ∙ sym c.in_err-run.ensures.variant in
    let e = rw c.in_err-run.ensures.ok_part at c.in_err-run.ensures.value in
    let n = ap (λ (r : Result SureRun Error). number_in r) e in
    refused_by _ _ c.from_residual.ensures.1 ∙ (ap refused n ∙ simp (c.if-not-m.false, known))

pub returns-in_err-check_start : goal.returns-in_err-check_start
returns-in_err-check_start c =
    refused_by _ _ c.from_residual-in_err-check_start.ensures.1
    ∙ (in_start c.new-minute.result _ c.in_err-check_start.ensures
    ∙ marks_of _ c.new-minute.result c.in_ok-run.ensures.ok_part c.new.ensures.same c.new-minute.ensures)

pub returns-in_err-check_numbers : goal.returns-in_err-check_numbers
returns-in_err-check_numbers c =
    refused_by _ _ c.from_residual-in_err-check_numbers.ensures.1
    ∙ (in_numbers c.new-minute.result c.in_ok-check_start.ensures _ c.in_err-check_numbers.ensures
    ∙ marks_of _ c.new-minute.result c.in_ok-run.ensures.ok_part c.new.ensures.same c.new-minute.ensures)

pub returns-in_err-check_date : goal.returns-in_err-check_date
returns-in_err-check_date c =
    refused_by _ _ c.from_residual-in_err-check_date.ensures.1
    ∙ (in_date c.new-minute.result c.in_ok-check_start.ensures c.in_ok-check_numbers.ensures _ c.fields-a.ensures _
    c.in_err-check_date.ensures
    ∙ marks_of _ c.new-minute.result c.in_ok-run.ensures.ok_part c.new.ensures.same c.new-minute.ensures)

pub returns-in_err-check_time : goal.returns-in_err-check_time
returns-in_err-check_time c =
    refused_by _ _ c.from_residual-in_err-check_time.ensures.1
    ∙ (in_time c.new-minute.result c.in_ok-check_start.ensures c.in_ok-check_numbers.ensures _ c.fields-a.ensures
    c.in_ok-check_date.ensures _ c.in_err-check_time.ensures
    ∙ marks_of _ c.new-minute.result c.in_ok-run.ensures.ok_part c.new.ensures.same c.new-minute.ensures)

pub returns : goal.returns
returns c =
    none_fails c.new-minute.result c.in_ok-check_start.ensures c.in_ok-check_numbers.ensures _ c.fields-a.ensures
    c.in_ok-check_date.ensures c.in_ok-check_time.ensures
    ∙ marks_of _ c.new-minute.result c.in_ok-run.ensures.ok_part c.new.ensures.same c.new-minute.ensures
