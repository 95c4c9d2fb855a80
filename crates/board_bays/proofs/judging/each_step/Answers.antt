-- `board_bays::judging::each_step` meets its contract: a step is passed or decides.
use Rattle.std.proofs.Common.{sym, ◌∙◌, drop_of_length-le}
use Rattle.board_bays.specs.Inner.{each_step}
use Rattle.board_bays.proofs.Offsets.{step_at}
use Rattle.board_bays.proofs.judging.each_step.Goals as goal

pub returns-then-not-fits : goal.returns-then-not-fits
returns-then-not-fits g c test same =
    let here = c.loop-p.invariant in
    let fits = same _ _ _ here.bounded (c.type_inv.offsets c.loop-p.p-index).fits c.fits.ensures in
    sym (here.judged test same ∙ step_at _ _ c.loop-p-test.true _ _ ∙ rw (← fits, c.if-not-fits.true))

pub loop-p-preserved : goal.loop-p-preserved
loop-p-preserved g c =
    let here = c.loop-p.invariant in
    let inside = (c.type_inv.offsets c.loop-p.p-index).fits in
    record {
      bounded = inside;
      judged = λ test same.
          let fits = same _ _ _ here.bounded inside c.fits.ensures in
          here.judged test same ∙ step_at _ _ c.loop-p-test.true _ _ ∙ rw (← fits, c.if-not-fits.false);
    }

pub returns : goal.returns
unfolding each_step
returns g c test same = sym (c.loop-p.invariant.judged test same ∙ rw (drop_of_length-le _ c.loop-p-test.false))
