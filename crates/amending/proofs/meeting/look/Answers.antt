-- `amending::meeting::look` meets its contract: each way out tells how many old cuts are passed and whether the next is met.
use Rattle.std.proofs.Common.{refl, sym, ◌∙◌}
use Rattle.amending.proofs.Places.{below_until}
use Rattle.amending.proofs.Looking.{look_early, look_next}
use Rattle.amending.proofs.meeting.look.Goals as goal

pub returns-then-cut-edit-clause-unmet : goal.returns-then-cut-edit-clause-unmet
returns-then-cut-edit-clause-unmet c =
    let early = look_early _ _ _ c.if-cut-edit.true in
    (early.0, sym early.1)

pub returns-then-eq-clause-met : goal.returns-then-eq-clause-met
returns-then-eq-clause-met c =
    look_next _ _ _ c.if-cut-edit.false _ (c.climb-passed.ensures ∙ below_until _ c.args.left.now) c.requires.ascends _ c.get.ensures.lookup _ refl (sym c.if-eq.true ∙ c.eq.ensures)

pub returns-clause-unmet : goal.returns-clause-unmet
returns-clause-unmet c =
    look_next _ _ _ c.if-cut-edit.false _ (c.climb-passed.ensures ∙ below_until _ c.args.left.now) c.requires.ascends _ c.get.ensures.lookup _ refl (sym c.if-eq.false ∙ c.eq.ensures)
