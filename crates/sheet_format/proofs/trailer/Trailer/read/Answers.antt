-- Each number is read where it stands.
use Rattle.std.proofs.Common.{refl}
use Rattle.words.specs.Numbers.{number_at}
use Rattle.sheet_format.specs.Trailer.{trailer_in}
use Rattle.sheet_format.proofs.trailer.Trailer.read.Goals as goal

pub returns : goal.returns
unfolding trailer_in number_at
returns c =
    rw (c.from.ensures, c.number-target.ensures.0, c.number-minimum.ensures.0, c.number-maximum.ensures.0, c.number.ensures.0, c.number-2.ensures.0) refl
