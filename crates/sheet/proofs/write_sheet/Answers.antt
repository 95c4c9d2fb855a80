-- The verdict decides.
use Rattle.std.proofs.Common.{◌≡◌, Err, length, sym, ◌∙◌, arith, rules}
use Rattle.terms.proofs.Ranges.{ranges}
use Rattle.sheet.specs.Write.{write_sheet_answer, write_sheet_leaves}
use Rattle.sheet.proofs.Writing.{Writable, writable}
use Rattle.sheet.proofs.write_sheet.Goals as goal

pub returns-in_err-judge_list : goal.returns-in_err-judge_list
unfolding write_sheet_answer write_sheet_leaves
returns-in_err-judge_list c =
    let same : c.from_residual.result ≡ Err c.in_err-judge_list.field-0.0 = search rules in
    let refused = sym c.judge_list.ensures ∙ c.in_err-judge_list.was in
    record { answer = rw (same, refused); bytes = rw refused }

pub put_sheet-requires : goal.put_sheet-requires
put_sheet-requires c =
    let p : Writable c.args.settings c.args.list.now (length c.args.bytes.now) = writable _ _ _ (sym c.judge_list.ensures ∙ c.in_ok-judge_list.was) in
    (omega (arith, (ranges _ p.in-range).few_bits), p.roomy)

pub returns : goal.returns
unfolding write_sheet_answer write_sheet_leaves
returns c = let fine = sym c.judge_list.ensures ∙ c.in_ok-judge_list.was in record { answer = rw fine; bytes = rw (fine, c.put_sheet.ensures) }
