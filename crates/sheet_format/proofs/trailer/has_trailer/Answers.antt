-- The first four of the last 32 bytes are compared with the mark.
use Rattle.std.proofs.Common.{length, arith, le-leb}
use borrow.Author.Tests.{lt-leb}
use Rattle.sheet_format.specs.Clean.{trailer_bytes, has_trailer}
use Rattle.sheet_format.proofs.trailer.has_trailer.Goals as goal

pub returns-in_default : goal.returns-in_default
unfolding has_trailer
returns-in_default c = simp (lt-leb _ _ c.in_default.ensures.cases)

pub returns : goal.returns
unfolding has_trailer trailer_bytes
returns c =
    let last = c.in-Some.ensures.cases in
    rw (le-leb 32 (length c.args.bytes.now) (omega (arith, last.2)), ← last.1) c.same_bytes.ensures
