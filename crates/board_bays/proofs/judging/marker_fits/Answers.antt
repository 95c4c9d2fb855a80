-- `board_bays::judging::marker_fits` meets its contract: segment 0, and any other.
use Rattle.std.proofs.Common.{sym, ◌∙◌}
use borrow.Author.Tests.{eq-eqb, ne_eqb}
use Rattle.board_bays.proofs.Offsets.{first_marker, later_marker}
use Rattle.board_bays.proofs.judging.marker_fits.Goals as goal

pub returns-then-i-gt0 : goal.returns-then-i-gt0
returns-then-i-gt0 c = c.marker_listed.ensures ∙ sym (later_marker _ _ _ _ c.if-i-gt0.true)

pub returns-then-noted-eq0 : goal.returns-then-noted-eq0
returns-then-noted-eq0 c = c.steps_within.ensures ∙ sym (first_marker _ _ _ _ c.if-i-gt0.false ∙ rw (eq-eqb _ _ c.if-noted-eq0.true))

pub returns-else-noted-eq0 : goal.returns-else-noted-eq0
returns-else-noted-eq0 c = sym (first_marker _ _ _ _ c.if-i-gt0.false ∙ rw (ne_eqb _ _ c.if-noted-eq0.false))
