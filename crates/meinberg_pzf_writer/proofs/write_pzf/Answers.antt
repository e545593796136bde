use Rattle.layout.proofs.DecideLaws.{clock_writes}
use Rattle.meinberg_pzf.specs.Pzf.{pzf, write_pzf}
use Rattle.meinberg_pzf.proofs.PzfLaws.{decides}
use Rattle.meinberg_pzf_writer.proofs.write_pzf.Goals as goal

pub returns : goal.returns
unfolding write_pzf pzf
returns c = search (clock_writes decides)
