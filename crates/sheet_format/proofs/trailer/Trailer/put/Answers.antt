-- The parts are written one after the other; what stands past them stays.
use Rattle.std.proofs.Common.{arith, rules}
use Rattle.words.proofs.BigEndian.{length_written}
use Rattle.sheet_format.proofs.Parts.{fields_over}
use Rattle.sheet_format.proofs.trailer.Trailer.put.Goals as goal

pub put_numbers-requires : goal.put_numbers-requires
put_numbers-requires c = (search rules, rw length_written (omega (arith, c.requires.2, c.split_at_mut-first.ensures.back_len, c.split_at_mut-second.ensures.back_len)))

pub returns : goal.returns
returns c =
    rw (c.copy_from_slice.ensures.after, c.copy_from_slice-2.ensures.after)
    (fields_over c.args.mark.now c.args.self c.args.bytes.now c.requires.0 c.split_at_mut-first.ensures.back c.split_at_mut-second.ensures.back
    (rw c.from.ensures at c.put_numbers.ensures))
