-- The cuts up to the last are put, and the offset looked at is where the piece from it on can end.
use Rattle.std.proofs.Common.{length, ◌+◌, ◌-◌, min}
use Rattle.pass_block.proofs.Fills.{Filling}
use Rattle.pass_block.proofs.filling.fill.Given as goal

abbrev pub invariant-loop-carry : goal.invariant-loop-carry
invariant-loop-carry l = Filling l.carry l.block l.initial.list l.list l.made l.next

abbrev pub decreases-loop-carry : goal.decreases-loop-carry
decreases-loop-carry l = length l.block - l.next + min (l.carry.taken + l.next - l.made.cut) 1
