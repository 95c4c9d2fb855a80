-- The first numbers are written over what was there.
use Rattle.std.proofs.Common.{◌≡◌, take}
use Rattle.laws.specs.Over.{over}
use Rattle.words.specs.Numbers.{written}
use Rattle.words.proofs.numbers.put_numbers.Given as goal

abbrev pub invariant-loop-i : goal.invariant-loop-i
invariant-loop-i l = l.bytes ≡ over (written l.width (take l.i l.list)) l.fn.bytes
