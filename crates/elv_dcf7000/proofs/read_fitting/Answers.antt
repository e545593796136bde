use mathlib.Core.Path.{◌≡◌, sym, ◌∙◌}
use mathlib.Core.Bool.{false}
use Rattle.elv_dcf7000.specs.Elv.{elv_flag_fault, elv, read_elv}
use Rattle.elv_dcf7000.proofs.ElvLaws.{read_flags, read_clock_lem}
use Rattle.elv_dcf7000.proofs.read_fitting.Goals as goal

pub has_flag_fault-requires : goal.has_flag_fault-requires
unfolding elv
has_flag_fault-requires c = c.requires

pub returns-then-has_flag_fault : goal.returns-then-has_flag_fault
unfolding elv read_elv
returns-then-has_flag_fault c =
    sym (read_flags c.requires (sym c.has_flag_fault.ensures ∙ c.if-has_flag_fault.true))

pub sent_fields-requires : goal.sent_fields-requires
unfolding elv
sent_fields-requires c = (c.requires, sym c.has_flag_fault.ensures ∙ c.if-has_flag_fault.false)

pub returns : goal.returns
unfolding elv read_elv
returns c =
    let faultless : elv_flag_fault c.args.s.now ≡ false =
    sym c.has_flag_fault.ensures ∙ c.if-has_flag_fault.false in
    let checked-is = rw c.sent_fields.ensures at c.check_without_weekday.ensures in
    read_clock_lem c.requires faultless _ checked-is
