-- Each way knows how the steps from the entry before on fit.
use Rattle.std.proofs.Common.{sym, refl, ap, ◌∙◌, lit<}
use Rattle.std.specs.Iterator.Adapters.{enumerate_source, enumerate_count}
use Rattle.lists.specs.WellFormed.{well_formed}
use Rattle.lists.proofs.Steps.{step_passed, step_refused, steps_end}
use Rattle.words.proofs.Chunks.{chunks_start, chunk_more, chunks_end}
use Rattle.sheet_format.proofs.Offsets.{length_offsets}
use Rattle.sheet_format.proofs.body.is_well_formed.Goals as goal

pub loop-i-init : goal.loop-i-init
unfolding well_formed
loop-i-init c =
    let same = c.into_iter-i-iterator.ensures.into_iter_gives in
    let none = ap enumerate_count same ∙ c.enumerate-i-items.ensures.count in
    let all = ap enumerate_source same ∙ c.enumerate-i-items.ensures.source in
    record { left = rw (none, all) (chunks_start 8 (lit< tt) _ _ c.chunks_exact.ensures.rest c.chunks_exact.ensures.size); rest = rw none refl }

pub returns-then-not-step_fits : goal.returns-then-not-step_fits
returns-then-not-step_fits c =
    let turn = c.in-Some.ensures.steps in
    let h = chunk_more 8 (lit< tt) _ _ _ (enumerate_source c.next.new.self) c.loop-i.invariant.left c.in-Some.place turn.0 in
    let fit = rw (turn.1, ← (length_offsets c.args.body.now), c.number-entry.ensures.0, ← h.1) at c.step_fits.ensures in
    sym (c.loop-i.invariant.rest ∙ step_refused _ _ _ _ _ _ h.0 fit c.if-not-step_fits.true)

pub loop-i-preserved : goal.loop-i-preserved
loop-i-preserved c =
    let turn = c.in-Some.ensures.steps in
    let h = chunk_more 8 (lit< tt) _ _ _ (enumerate_source c.next.new.self) c.loop-i.invariant.left c.in-Some.place turn.0 in
    let fit = rw (turn.1, ← (length_offsets c.args.body.now), c.number-entry.ensures.0, ← h.1) at c.step_fits.ensures in
    record {
      left = rw turn.2 h.2;
      rest = rw (turn.2, c.number-entry.ensures.0, ← h.1) (c.loop-i.invariant.rest ∙ step_passed _ _ _ _ _ _ h.0 fit c.if-not-step_fits.false);
    }

pub returns : goal.returns
returns c = sym (c.loop-i.invariant.rest ∙ steps_end _ _ _ _ _ (chunks_end 8 (lit< tt) _ _ _ _ c.loop-i.invariant.left c.in-None.ensures.steps.0))
