-- The invariant of `board_walk::reading::force_cuts`: the forced cuts are made up to the last one, and the rest are left.
use Rattle.std.proofs.Common.{◌≤◌, ◌-◌}
use Rattle.board_walk.specs.Walk.{forced_up_to}
use Rattle.lists.proofs.Putting.{Underway}
use Rattle.board_walk.proofs.reading.force_cuts.Given as goal

abbrev pub invariant-loop-made : goal.invariant-loop-made
invariant-loop-made l = record {
  within : l.made.cut ≤ l.last;
  way : Underway (forced_up_to l.maximum l.last l.fn.made.cut) (forced_up_to l.maximum l.last l.made.cut) l.fn.made l.made l.fn.list l.list;
}

abbrev pub decreases-loop-made : goal.decreases-loop-made
decreases-loop-made l = l.last - l.made.cut
