-- The invariant of `board_walk::walk_bays`: the bays before bay i are walked, and the last cut is not past where bay i begins.
use Rattle.lists.specs.Puts.{none_after}
use Rattle.board_walk.proofs.BayWalks.{Walking}
use Rattle.board_walk.proofs.walk_bays.Given as goal

abbrev pub invariant-loop-i : goal.invariant-loop-i
invariant-loop-i l =
    let b = l.board in
    let s = l.rule.settings in
    Walking s.minimum s.maximum b.n b.size b.width b.numbers.now l.i-end (none_after 0) l.fn.list l.list l.made l.i
