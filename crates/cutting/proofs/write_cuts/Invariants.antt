-- The cuts up to the last one made are put, and those after it are left.
use Rattle.std.proofs.Common.{length, ◌-◌}
use Rattle.cutting.specs.Marks.{next_cut}
use Rattle.cutting.proofs.Chains.{Putting}
use Rattle.cutting.proofs.write_cuts.Given as goal

abbrev pub invariant-loop-made : goal.invariant-loop-made
invariant-loop-made l = Putting (next_cut l.cutter.marks.settings l.log) (length l.log) l.initial.list l.made l.list

abbrev pub decreases-loop-made : goal.decreases-loop-made
decreases-loop-made l = length l.log - l.made.cut
