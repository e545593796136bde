use Rattle.meinberg_gps.proofs.GpsLaws.{writes}
use Rattle.meinberg_gps_writer.proofs.write_gps.Goals as goal

pub returns : goal.returns
returns c = search writes
