-- Each way stops at its row.
use Rattle.std.proofs.Common.{not, sym, ap, le-ltb, lt-ltb}
use Rattle.terms.proofs.Verdicts.{top, past, judged_wrong, judged_fine}
use Rattle.sheet.specs.Write.{write_sheet_rows}
use Rattle.sheet.proofs.judge_list.Goals as goal

pub returns-then-not-in_range : goal.returns-then-not-in_range
unfolding write_sheet_rows
returns-then-not-in_range c = judged_wrong top (ap not (sym c.if-not-in_range.ensures))

pub returns-then-not-well_formed : goal.returns-then-not-well_formed
unfolding write_sheet_rows
returns-then-not-well_formed c = judged_wrong (past (ap not (sym c.if-not-in_range.ensures)) top) (ap not (sym c.if-not-well_formed.ensures))

pub returns-then-list-gt1048576 : goal.returns-then-list-gt1048576
unfolding write_sheet_rows
returns-then-list-gt1048576 c =
    judged_wrong (past (ap not (sym c.if-not-in_range.ensures)) (past (ap not (sym c.if-not-well_formed.ensures)) top)) (lt-ltb _ _ c.if-list-gt1048576.true)

pub returns-then-room-list : goal.returns-then-room-list
unfolding write_sheet_rows
returns-then-room-list c =
    let ranged = ap not (sym c.if-not-in_range.ensures) in
    let formed = ap not (sym c.if-not-well_formed.ensures) in
    judged_wrong (past ranged (past formed (past (le-ltb _ _ c.if-list-gt1048576.false) top))) (lt-ltb _ _ c.if-room-list.true)

pub returns : goal.returns
unfolding write_sheet_rows
returns c =
    let ranged = ap not (sym c.if-not-in_range.ensures) in
    let formed = ap not (sym c.if-not-well_formed.ensures) in
    judged_fine (past ranged (past formed (past (le-ltb _ _ c.if-list-gt1048576.false) (past (le-ltb _ _ c.if-room-list.false) top))))
