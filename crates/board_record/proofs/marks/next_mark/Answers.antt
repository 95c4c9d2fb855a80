-- `board_record::marks::next_mark` meets its contract: the window rolls on by one byte, and the search goes on.
use Rattle.std.proofs.Common.{arith}
use Rattle.signature.proofs.Windows.{signature_lt}
use Rattle.cutting.proofs.Searching.{rolled_on}
use Rattle.board_record.proofs.marks.next_mark.Goals as goal

pub roll-signature-requires : goal.roll-signature-requires
roll-signature-requires c = signature_lt _ c.requires.2

pub seek-requires-clause-signature : goal.seek-requires-clause-signature
seek-requires-clause-signature c =
    rolled_on _ (λ j. (c.type_inv.bytes j).fits) _ c.requires.0 (omega (arith, c.requires.1, c.if-at-bytes.false)) _ _ c.requires.2 c.roll-signature.ensures
