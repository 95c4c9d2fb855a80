-- The invariant of `board_bays::judging::judge_bays`: all bays are judged as those from bay i on are.
use Rattle.std.proofs.Common.{◌≡◌, ◌-◌}
use Rattle.terms.specs.Rows.{verdict}
use Rattle.board_bays.specs.Judging.{bays_rows}
use Rattle.board_bays.proofs.judging.judge_bays.Given as goal

abbrev pub invariant-loop-i : goal.invariant-loop-i
invariant-loop-i l =
    let b = l.board in
    verdict (bays_rows l.settings b.n b.size b.width b.numbers.now l.i-end 0) ≡ verdict (bays_rows l.settings b.n b.size b.width b.numbers.now (l.i-end - l.i) l.i)
