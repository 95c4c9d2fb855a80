-- `board_bays::judging::marker_listed` meets its contract: the marker is found, or nowhere.
use Rattle.std.proofs.Common.{sym, ◌∙◌}
use Rattle.board_bays.proofs.Offsets.{marker_found, marker_nowhere}
use Rattle.board_bays.proofs.judging.marker_listed.Goals as goal

pub returns-in-Some : goal.returns-in-Some
returns-in-Some c = c.steps_within.ensures ∙ sym (marker_found _ _ _ _ _ (sym c.place_of.ensures ∙ c.in-Some.is))

pub returns-in-None : goal.returns-in-None
returns-in-None c = sym (marker_nowhere _ _ _ _ (sym c.place_of.ensures ∙ c.in-None.is))
