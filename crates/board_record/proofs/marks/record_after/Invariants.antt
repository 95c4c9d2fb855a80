-- The invariant of `board_record::marks::record_after`: the marks up to the spot are recorded, and the record goes on from it.
use Rattle.std.proofs.Common.{◌-◌, length}
use Rattle.board_record.proofs.Slow.{Slowly}
use Rattle.board_record.proofs.marks.record_after.Given as goal

abbrev pub invariant-loop-next : goal.invariant-loop-next
invariant-loop-next l =
    Slowly l.cutter.marks.settings l.stretch.bytes.now l.stretch.base l.fn.first l.initial.made l.initial.list l.spot l.made l.list

abbrev pub decreases-loop-next : goal.decreases-loop-next
decreases-loop-next l = length l.stretch.bytes.now - l.spot.at
