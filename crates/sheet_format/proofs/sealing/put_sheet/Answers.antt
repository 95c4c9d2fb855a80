-- The body is written, and sealed.
use Rattle.std.proofs.Common.{arith, rules}
use Rattle.words.proofs.BigEndian.{length_written}
use Rattle.sheet_format.proofs.Parts.{sheet_written}
use Rattle.sheet_format.proofs.sealing.put_sheet.Goals as goal

pub put_numbers-requires : goal.put_numbers-requires
put_numbers-requires c = let size = length_written 8 c.args.list.now in (search rules, omega arith)

pub returns : goal.returns
returns c = sheet_written c.args.settings c.args.label c.args.list.now c.args.bytes.now c.put_numbers.ensures c.seal.ensures
