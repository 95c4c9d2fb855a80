-- `lists::well_formed` meets its contract: an entry's step is passed or decides, and the end leaves the bound.
use Rattle.std.proofs.Common.{refl, sym, ◌∙◌}
use Rattle.lists.specs.WellFormed.{well_formed}
use Rattle.lists.proofs.Steps.{step_passed, step_refused, steps_end}
use Rattle.lists.proofs.well_formed.Goals as goal

pub loop-i-init : goal.loop-i-init
unfolding well_formed
loop-i-init c = refl

pub returns-then-not-step_fits : goal.returns-then-not-step_fits
returns-then-not-step_fits c = sym (c.loop-i.invariant ∙ step_refused _ _ _ _ _ _ c.loop-i-test.true c.step_fits.ensures c.if-not-step_fits.true)

pub loop-i-preserved : goal.loop-i-preserved
loop-i-preserved c = c.loop-i.invariant ∙ step_passed _ _ _ _ _ _ c.loop-i-test.true c.step_fits.ensures c.if-not-step_fits.false

pub returns : goal.returns
returns c = sym (c.loop-i.invariant ∙ steps_end _ _ _ _ _ c.loop-i-test.false)
