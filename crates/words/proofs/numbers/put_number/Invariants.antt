-- The number's first bytes are written over what was there.
use Rattle.std.proofs.Common.{◌≡◌, take}
use Rattle.laws.specs.Over.{over}
use Rattle.words.specs.Numbers.{big_endian}
use Rattle.words.proofs.numbers.put_number.Given as goal

abbrev pub invariant-loop-i : goal.invariant-loop-i
invariant-loop-i l = l.bytes ≡ over (take l.i (big_endian l.width l.number)) l.fn.bytes
