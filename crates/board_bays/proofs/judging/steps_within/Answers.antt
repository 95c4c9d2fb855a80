-- `board_bays::judging::steps_within` meets its contract: the closure computes the step of a list.
use Rattle.std.proofs.Common.{sym, ◌∙◌, rules, false}
use Rattle.lists.specs.WellFormed.{step_fits}
use Rattle.board_bays.proofs.Offsets.{steps_by_steps}
use Rattle.board_bays.proofs.judging.steps_within.Goals as goal

pub returns : goal.returns
returns c = c.each_step.ensures (step_fits _ _ false) (λ a p r h k said. search rules) ∙ sym (steps_by_steps _ _ _ _)
