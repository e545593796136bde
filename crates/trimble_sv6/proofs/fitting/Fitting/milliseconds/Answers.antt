use Rattle.std.proofs.Common.{refl}
use Rattle.clock_time.specs.Lists.{ascii}
use Rattle.layout_words.proofs.PairLaws.{low_digit, numbers_four}
use Rattle.trimble_sv6.specs.Trimble.{trimble_layout, milliseconds_of}
use Rattle.trimble_sv6.proofs.TrimbleLaws.{three_number}
use Rattle.trimble_sv6.proofs.fitting.Fitting.milliseconds.Goals as goal

pub returns : goal.returns
unfolding milliseconds_of trimble_layout ascii
returns c =
    let f = c.args.self.fits in
    rw (c.four_numbers_at.ensures, numbers_four f 4 refl refl refl refl, low_digit f 12 refl)
    (three_number c.args.self.s.now 10)
