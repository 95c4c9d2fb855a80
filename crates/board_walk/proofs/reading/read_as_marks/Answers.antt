-- `board_walk::reading::read_as_marks` meets its contract: an offset is read on, or is the marker.
use Rattle.std.proofs.Common.{◌+◌, refl}
use Rattle.laws.proofs.Slices.{rest_from}
use Rattle.lists.proofs.Putting.{begin, rest-is, ended, all_made}
use Rattle.board_walk.proofs.Offsets.{forces}
use Rattle.board_walk.proofs.Rises.{next-rises}
use Rattle.board_walk.proofs.Walks.{marks_on, marks_switch, still_rises, marks_end}
use Rattle.board_walk.proofs.reading.read_as_marks.Goals.{else-made-p-via-then-made-p+else-p-noted, else-made-p-via-else-made-p}
use Rattle.board_walk.proofs.reading.read_as_marks.Goals as goal

pub loop-k-init : goal.loop-k-init
loop-k-init c = record { rising = c.requires; way = begin _ _ refl refl }

pub read_offset-made-requires : goal.read_offset-made-requires
read_offset-made-requires c = (next-rises _ _ _ _ c.loop-k-test.true c.loop-k.invariant.rising).0

pub take_offsets-requires : goal.take_offsets-requires
take_offsets-requires c =
    let here = c.loop-k.invariant in
    rw rest_from (still_rises _ _ _ _ _ c.loop-k-test.true (forces c.args.rule) c.read_offset-made.ensures here.way here.rising)

pub returns-then-p-noted : goal.returns-then-p-noted
returns-then-p-noted c =
    all_made
    (marks_switch _ _ _ _ _ c.loop-k-test.true (forces c.args.rule) c.read_offset-made.ensures c.loop-k.invariant.way c.if-made-p.true c.if-p-noted.true)
    (rest_from _ (c.loop-k.k + 1)) c.take_offsets.ensures

pub loop-k-preserved : goal.loop-k-preserved
loop-k-preserved c =
    let here = c.loop-k.invariant in
    let read = c.read_offset-made.ensures in
    record {
      rising = still_rises _ _ _ _ _ c.loop-k-test.true (forces c.args.rule) read here.way here.rising;
      way = marks_on _ _ _ _ _ c.loop-k-test.true (forces c.args.rule) read here.way
          (λ cut is-marker. elim c.else-made-p.branch [
            | else-made-p-via-then-made-p+else-p-noted w ↦ w.if-p-noted.false is-marker
            | else-made-p-via-else-made-p w ↦ w.if-made-p.false cut
          ]);
    }

pub returns : goal.returns
returns c = ended (rest-is _ (marks_end _ _ _ _ _ _ c.loop-k-test.false) c.loop-k.invariant.way)
