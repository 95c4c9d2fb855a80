-- `board_bays::judging::rises_within` meets its contract: the closure computes the step of a rise.
use Rattle.std.proofs.Common.{ℕ, sym, ◌∙◌, rules, ◌&&◌}
use lib.Dec.{leb, ltb}
use Rattle.board_bays.proofs.Offsets.{rises_by_steps}
use Rattle.board_bays.proofs.judging.rises_within.Goals as goal

pub returns : goal.returns
returns c = c.each_step.ensures (λ (a p : ℕ). ltb a p && leb p c.args.last) (λ a p r h k said. search rules) ∙ sym (rises_by_steps _ _ _)
