-- `board_bays::judging::judge_bay` meets its contract: 8 before 9.
use Rattle.std.proofs.Common.{ap, not}
use Rattle.terms.proofs.Verdicts.{asked, top, past, judged_wrong, judged_fine}
use Rattle.board_bays.specs.Judging.{bay_rows}
use Rattle.board_bays.proofs.Sound.{is_done_lem, not_done}
use Rattle.board_bays.proofs.judging.judge_bay.Goals as goal

pub returns-then-bay-eq0 : goal.returns-then-bay-eq0
unfolding bay_rows
returns-then-bay-eq0 c = judged_wrong top (ap not (not_done _ c.if-bay-eq0.true))

pub is_sound-requires : goal.is_sound-requires
is_sound-requires c = is_done_lem _ c.if-bay-eq0.false

pub returns-then-not-is_sound : goal.returns-then-not-is_sound
unfolding bay_rows
returns-then-not-is_sound c =
    judged_wrong (past (ap not (is_done_lem _ c.if-bay-eq0.false)) top) (asked c.is_sound.ensures (ap not c.if-not-is_sound.true))

pub returns : goal.returns
unfolding bay_rows
returns c =
    judged_fine (past (ap not (is_done_lem _ c.if-bay-eq0.false)) (past (asked c.is_sound.ensures (ap not c.if-not-is_sound.false)) top))
