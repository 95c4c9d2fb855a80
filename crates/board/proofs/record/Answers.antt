-- `board::record` meets its contract: rows 1, 2 and 7, then the bay.
use Rattle.std.specs.Prelude.{◌≡◌, Err}
use Rattle.std.proofs.Common.{rules, refl, ◌∙◌}
use Rattle.terms.specs.declared.Refusal.TheVariants.{RecordTooLong}
use Rattle.terms.proofs.Verdicts.{top, skips, stopped_in, wrote}
use Rattle.board_bays.proofs.Verdicts.{came, plain_call}
use Rattle.board.specs.Recording.{record_rows, record_answer, record_leaves}
use Rattle.board.specs.Inner.{filled_answer}
use Rattle.board.proofs.Fills.{granted, bay_granted}
use Rattle.board.proofs.record.Goals as goal

pub returns-in_err-judge : goal.returns-in_err-judge
unfolding record_answer record_leaves record_rows
returns-in_err-judge c =
    let same : c.from_residual.result ≡ Err c.in_err-judge.field-0.0 = search rules in
    let stopped =
    stopped_in RecordTooLong Err _ _ _ _ _ top (came _ _ c.judge.ensures c.bay_fits-fits.ensures c.in_err-judge.was) (plain_call _ _ _).0 in
    record { answer = same ∙ stopped.0; bay = stopped.1 }

pub invariant_of-fill_bay : goal.invariant_of-fill_bay
invariant_of-fill_bay c = record { ranged = (granted _ _ c.judge.ensures c.in_ok-judge.was c.bay_fits-fits.ensures).0 }

pub invariant_of-fill_bay-2 : goal.invariant_of-fill_bay-2
invariant_of-fill_bay-2 c = record { there = (bay_granted _ _ c.judge.ensures c.in_ok-judge.was _ _ _ c.bay_fits-fits.ensures).0 }

pub fill_bay-requires : goal.fill_bay-requires
fill_bay-requires c = (refl, (bay_granted _ _ c.judge.ensures c.in_ok-judge.was _ _ _ c.bay_fits-fits.ensures).1)

pub returns : goal.returns
unfolding record_answer record_leaves record_rows filled_answer
returns c =
    let filled = c.fill_bay.ensures in
    let written =
    wrote RecordTooLong Err _ _ _ (skips _ (came _ _ c.judge.ensures c.bay_fits-fits.ensures c.in_ok-judge.was) top) filled.answer filled.bay in
    record { answer = written.0; bay = written.1 }
