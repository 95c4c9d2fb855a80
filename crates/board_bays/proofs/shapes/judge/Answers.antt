-- `board_bays::shapes::judge` meets its contract: each `return` stands at its row.
use Rattle.std.proofs.Common.{ap, not}
use borrow.Author.Tests.{le-ltb, lt-ltb}
use Rattle.terms.proofs.Verdicts.{asked, top, past, judged_wrong, judged_fine}
use Rattle.board_bays.specs.Judging.{call_rows}
use Rattle.board_bays.proofs.shapes.judge.Goals as goal

pub returns-then-not-in_range : goal.returns-then-not-in_range
unfolding call_rows
returns-then-not-in_range c = judged_wrong top (asked c.in_range.ensures (ap not c.if-not-in_range.true))

pub returns-then-n-gt-LONGEST : goal.returns-then-n-gt-LONGEST
unfolding call_rows
returns-then-n-gt-LONGEST c = judged_wrong (past (asked c.in_range.ensures (ap not c.if-not-in_range.false)) top) (lt-ltb _ _ c.if-n-gt-LONGEST.true)

pub returns-then-not-fits : goal.returns-then-not-fits
unfolding call_rows
returns-then-not-fits c =
    judged_wrong (past (asked c.in_range.ensures (ap not c.if-not-in_range.false)) (past (le-ltb _ _ c.if-n-gt-LONGEST.false) top)) (ap not c.if-not-fits.true)

pub returns : goal.returns
unfolding call_rows
returns c =
    judged_fine
    (past (asked c.in_range.ensures (ap not c.if-not-in_range.false))
    (past (le-ltb _ _ c.if-n-gt-LONGEST.false) (past (ap not c.if-not-fits.false) top)))
