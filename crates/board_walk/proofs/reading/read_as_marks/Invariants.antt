-- The invariant of `board_walk::reading::read_as_marks`: what is read so far is made; what is left is read from the last cut on, and rises.
use Rattle.std.proofs.Common.{◌≡◌, ◌^◌, true, drop}
use Rattle.board_bays.specs.Bays.{rises_within}
use Rattle.board_walk.specs.Walk.{read_as_marks}
use Rattle.lists.proofs.Putting.{Underway}
use Rattle.board_walk.proofs.reading.read_as_marks.Given as goal

abbrev pub invariant-loop-k : goal.invariant-loop-k
invariant-loop-k l =
    let settings = l.rule.settings in
    let marker = l.noted.marker in
    record {
      rising : rises_within l.made.cut (2 ^ 40) (drop l.k l.offsets) ≡ true;
      way : Underway (read_as_marks settings.minimum settings.maximum marker l.fn.made.cut l.offsets)
          (read_as_marks settings.minimum settings.maximum marker l.made.cut (drop l.k l.offsets)) l.fn.made l.made l.fn.list l.list;
    }
