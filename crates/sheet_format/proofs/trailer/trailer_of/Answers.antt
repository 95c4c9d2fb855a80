-- The last 32 bytes are read.
use Rattle.sheet_format.specs.Clean.{trailer_bytes, trailer_of}
use Rattle.sheet_format.proofs.trailer.trailer_of.Goals as goal

pub returns : goal.returns
unfolding trailer_of trailer_bytes
returns c =
    let last = rw c.unwrap.ensures at c.split_last_chunk.ensures.cases in
    rw last.1 at c.read.ensures
