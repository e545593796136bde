use Rattle.dcf77_outcome.proofs.number_of.Goals as goal

pub invariant_of-date : goal.invariant_of-date
invariant_of-date c = rw c.date.ensures (record { is_supported = c.requires.supported })
