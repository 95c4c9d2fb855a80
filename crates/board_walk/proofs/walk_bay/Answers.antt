-- `board_walk::walk_bay` meets its contract: segment 0's offsets are cuts, any other's are read as marks.
use Rattle.std.proofs.Common.{sym}
use Rattle.lists.proofs.Putting.{puts_are}
use Rattle.board_walk.proofs.BayWalks.{first_bay, later_bay}
use Rattle.board_walk.proofs.walk_bay.Goals as goal

pub returns-then-i-eq0 : goal.returns-then-i-eq0
returns-then-i-eq0 c = puts_are (sym (first_bay _ _ _ _ _ c.if-i-eq0.true)) c.take_offsets.ensures

pub returns-else-i-eq0 : goal.returns-else-i-eq0
returns-else-i-eq0 c = puts_are (sym (later_bay _ _ _ _ _ c.if-i-eq0.false)) c.read_as_marks.ensures
