-- `board::segment` meets its contract: rows 1, 2 and 7, then the segment's own bay.
use Rattle.std.specs.Prelude.{◌≡◌, Err}
use Rattle.std.proofs.Common.{rules, refl, ◌∙◌, arith}
use Rattle.terms.specs.declared.Refusal.TheVariants.{RecordTooLong}
use Rattle.terms.proofs.Verdicts.{top, skips, stopped_in, wrote}
use Rattle.board_bays.proofs.Verdicts.{came, plain_call}
use Rattle.board.specs.Recording.{segment_rows, segment_answer, segment_leaves}
use Rattle.board.specs.Inner.{filled_answer}
use Rattle.board.proofs.Fills.{granted, segment_granted, lent_wide, lent_answer, put_back}
use Rattle.board.proofs.segment.Goals as goal

pub returns-in_err-judge : goal.returns-in_err-judge
unfolding segment_answer segment_leaves segment_rows
returns-in_err-judge c =
    let same : c.from_residual.result ≡ Err c.in_err-judge.field-0.0 = search rules in
    let stopped =
    stopped_in RecordTooLong Err _ _ _ _ _ top (came _ _ c.judge.ensures c.segment_fits-fits.ensures c.in_err-judge.was) (plain_call _ _ _).0 in
    record { answer = same ∙ stopped.0; board = stopped.1 }

pub overflow_mul-start : goal.overflow_mul-start
overflow_mul-start c = let there = segment_granted _ _ c.judge.ensures c.in_ok-judge.was _ _ _ _ c.segment_fits-fits.ensures in omega arith

pub overflow_add-bay : goal.overflow_add-bay
overflow_add-bay c = let there = segment_granted _ _ c.judge.ensures c.in_ok-judge.was _ _ _ _ c.segment_fits-fits.ensures in omega arith

pub offset_bounds-board-start : goal.offset_bounds-board-start
offset_bounds-board-start c =
    let there = segment_granted _ _ c.judge.ensures c.in_ok-judge.was _ _ _ _ c.segment_fits-fits.ensures in omega (arith, c.well_formed)

pub slice_bounds-bay-end : goal.slice_bounds-bay-end
slice_bounds-bay-end c = (segment_granted _ _ c.judge.ensures c.in_ok-judge.was _ _ _ _ c.segment_fits-fits.ensures).2

pub invariant_of-fill_bay : goal.invariant_of-fill_bay
invariant_of-fill_bay c = record { ranged = (granted _ _ c.judge.ensures c.in_ok-judge.was c.segment_fits-fits.ensures).0 }

pub invariant_of-fill_bay-2 : goal.invariant_of-fill_bay-2
invariant_of-fill_bay-2 c = record { there = (segment_granted _ _ c.judge.ensures c.in_ok-judge.was _ _ _ _ c.segment_fits-fits.ensures).0 }

pub fill_bay-requires : goal.fill_bay-requires
fill_bay-requires c =
    let there = segment_granted _ _ c.judge.ensures c.in_ok-judge.was _ _ _ _ c.segment_fits-fits.ensures in
    (refl, lent_wide _ _ _ there.2 there.1)

pub returns : goal.returns
unfolding segment_answer segment_leaves segment_rows filled_answer
returns c =
    let fine = came _ _ c.judge.ensures c.segment_fits-fits.ensures c.in_ok-judge.was in
    let there = segment_granted _ _ c.judge.ensures c.in_ok-judge.was _ _ _ _ c.segment_fits-fits.ensures in
    let filled = c.fill_bay.ensures in
    let written =
    wrote RecordTooLong Err _ _ _ (skips _ fine top) (filled.answer ∙ lent_answer _ _ _ there.2 _) (put_back _ _ _ _ filled.bay) in
    record { answer = written.0; board = written.1 }
