-- `board::merge` meets its contract: each way stops at its row.
use Rattle.std.specs.Prelude.{◌≡◌, Err}
use Rattle.std.proofs.Common.{rules, refl, sym, ◌∙◌, arith}
use borrow.Author.Tests.{le-ltb, lt-ltb}
use native.Mathlib.Nat.{div-le_self}
use Rattle.terms.specs.declared.Refusal.TheVariants.{ListFull}
use Rattle.terms.proofs.Verdicts.{top, past, skips, stopped, stopped_in, wrote}
use Rattle.terms.proofs.Ranges.{ranges}
use Rattle.lists.specs.Written.{written_answer}
use Rattle.lists.proofs.Written.{list_full, all_written}
use Rattle.board_bays.proofs.Verdicts.{came, plain_call, plain_bays}
use Rattle.board_walk.specs.Walk.{board_walk}
use Rattle.board.specs.Merging.{merge_rows, merge_answer, merge_leaves}
use Rattle.board.proofs.Fills.{granted}
use Rattle.board.proofs.merge.Goals as goal

pub returns-in_err-judge : goal.returns-in_err-judge
unfolding merge_answer merge_leaves merge_rows
returns-in_err-judge c =
    let same : c.from_residual.result ≡ Err c.in_err-judge.field-0.0 = search rules in
    let stop = stopped_in ListFull Err _ _ _ _ _ top (came _ _ c.judge.ensures c.board_fits-fits.ensures c.in_err-judge.was) (plain_call _ _ _).1 in
    record { answer = same ∙ stop.0; list = stop.1 }

pub nonzero_div-n : goal.nonzero_div-n
nonzero_div-n c =
    let rows = granted _ _ c.judge.ensures c.in_ok-judge.was c.board_fits-fits.ensures in
    (ranges c.args.settings rows.0).positive

pub overflow_add-n : goal.overflow_add-n
overflow_add-n c =
    let rows = granted _ _ c.judge.ensures c.in_ok-judge.was c.board_fits-fits.ensures in
    omega (arith, div-le_self c.args.n c.args.settings.minimum, rows.1)

pub returns-then-places-n : goal.returns-then-places-n
unfolding merge_answer merge_leaves merge_rows
returns-then-places-n c =
    let fine = came _ _ c.judge.ensures c.board_fits-fits.ensures c.in_ok-judge.was in
    let stop = stopped ListFull Err _ _ _ (skips _ fine top) (lt-ltb _ _ c.if-places-n.true) refl in
    record { answer = stop.0; list = stop.1 }

pub returns-in_err-judge_bays : goal.returns-in_err-judge_bays
unfolding merge_answer merge_leaves merge_rows
returns-in_err-judge_bays c =
    let fine = came _ _ c.judge.ensures c.board_fits-fits.ensures c.in_ok-judge.was in
    let same : c.from_residual-in_err-judge_bays.result ≡ Err c.in_err-judge_bays.field-0.0 = search rules in
    let stop =
    stopped_in ListFull Err _ _ _ _ _ (skips _ fine (past (le-ltb _ _ c.if-places-n.false) top))
    (sym c.judge_bays.ensures ∙ c.in_err-judge_bays.was) (plain_bays _ _ _ _ _ _ _) in
    record { answer = same ∙ stop.0; list = stop.1 }

pub invariant_of-bays : goal.invariant_of-bays
invariant_of-bays c = let rows = granted _ _ c.judge.ensures c.in_ok-judge.was c.board_fits-fits.ensures in record { bounded = rows.1; fits = rows.2 }

pub invariant_of-walk_board : goal.invariant_of-walk_board
invariant_of-walk_board c = record { ranged = (granted _ _ c.judge.ensures c.in_ok-judge.was c.board_fits-fits.ensures).0 }

-- only the guard is left
pub returns-then-count-places : goal.returns-then-count-places
unfolding merge_answer merge_leaves merge_rows written_answer
returns-then-count-places c =
    let fine = came _ _ c.judge.ensures c.board_fits-fits.ensures c.in_ok-judge.was in
    let bays = sym c.judge_bays.ensures ∙ c.in_ok-judge_bays.was in
    let walked = c.walk_board-count.ensures in
    let written =
    wrote ListFull Err _ _ _ (skips _ fine (past (le-ltb _ _ c.if-places-n.false) (skips _ bays top)))
    (list_full (board_walk _ _ _ _ _) _ walked.value c.if-count-places.true) walked.list_after in
    record { answer = written.0; list = written.1 }

pub returns : goal.returns
unfolding merge_answer merge_leaves merge_rows written_answer
returns c =
    let fine = came _ _ c.judge.ensures c.board_fits-fits.ensures c.in_ok-judge.was in
    let bays = sym c.judge_bays.ensures ∙ c.in_ok-judge_bays.was in
    let walked = c.walk_board-count.ensures in
    let written =
    wrote ListFull Err _ _ _ (skips _ fine (past (le-ltb _ _ c.if-places-n.false) (skips _ bays top)))
    (all_written (board_walk _ _ _ _ _) _ walked.value c.if-count-places.false) walked.list_after in
    record { answer = written.0; list = written.1 }
