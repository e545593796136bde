use Rattle.layout.proofs.DecideLaws.{clock_writes}
use Rattle.meinberg_standard.specs.Standard.{standard, write_standard}
use Rattle.meinberg_standard.proofs.StandardLaws.{decides}
use Rattle.meinberg_standard_writer.proofs.write_standard.Goals as goal

pub returns : goal.returns
unfolding write_standard standard
returns c = search (clock_writes decides)
