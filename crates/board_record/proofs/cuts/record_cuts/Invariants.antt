-- The invariant of `board_record::cuts::record_cuts`: the cuts up to the last one made are put.
use Rattle.std.proofs.Common.{◌+◌, ◌-◌, length}
use Rattle.board_record.proofs.Stretching.{Cutting}
use Rattle.board_record.proofs.cuts.record_cuts.Given as goal

abbrev pub invariant-loop-next : goal.invariant-loop-next
invariant-loop-next l = Cutting l.cutter.marks.settings l.stretch.bytes.now l.stretch.base l.initial.made l.initial.list l.made l.list

abbrev pub decreases-loop-next : goal.decreases-loop-next
decreases-loop-next l = l.stretch.base + length l.stretch.bytes.now - l.made.cut
