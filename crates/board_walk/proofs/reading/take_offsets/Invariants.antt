-- The invariant of `board_walk::reading::take_offsets`: the offsets so far are made, and the rest are left and rise.
use Rattle.std.proofs.Common.{◌≡◌, ◌^◌, true, drop}
use Rattle.board_bays.specs.Bays.{rises_within}
use Rattle.lists.proofs.Putting.{Underway}
use Rattle.board_walk.proofs.reading.take_offsets.Given as goal

abbrev pub invariant-loop-p : goal.invariant-loop-p
invariant-loop-p l = record {
  rising : rises_within l.made.cut (2 ^ 40) (drop l.p-index l.offsets) ≡ true;
  way : Underway l.offsets (drop l.p-index l.offsets) l.fn.made l.made l.fn.list l.list;
}
