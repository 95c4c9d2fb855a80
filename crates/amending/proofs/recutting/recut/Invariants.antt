-- The invariant of `amending::recutting::recut`: proofs/Recuts.antt.
use Rattle.std.proofs.Common.{◌-◌, length}
use Rattle.cutting.specs.Marks.{next_cut}
use Rattle.amending.proofs.Recuts.{Recuts}
use Rattle.amending.proofs.recutting.recut.Given as goal

abbrev pub invariant-loop-made : goal.invariant-loop-made
invariant-loop-made l = Recuts (next_cut l.cutter.marks.settings l.log) (length l.log) l.edit l.past l.initial.made l.initial.list l.made l.list l.passed

abbrev pub decreases-loop-made : goal.decreases-loop-made
decreases-loop-made l = length l.log - l.made.cut
