use Rattle.clock_time.specs.Writing.{write_back}
use Rattle.dcf77.specs.Minute.{write_minute}
use Rattle.dcf77.proofs.WriteLaws.{reads_representable}
use Rattle.dcf77_writer.proofs.writing.write_run.Goals as goal

pub returns : goal.returns
unfolding write_minute write_back
returns c =
    let run = c.requires in
    rw (reads_representable, ← run, ← c.is_representable-writable.ensures) c.write_bytes.ensures
