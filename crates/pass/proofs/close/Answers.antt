-- Each `return` stands at its row.
use Rattle.std.proofs.Common.{◌∙◌, sym, arith}
use borrow.Author.Tests.{eqb-true, eqb-false}
use Rattle.pass.proofs.Closing.{close_wrong, close_judged, close_short, close_fine, close_writes, close_stays}
use Rattle.pass.proofs.close.Goals as goal

pub returns-in-Err : goal.returns-in-Err
returns-in-Err c =
    let done = close_wrong _ c.args.list.now (close_judged _ _ (sym c.judge.ensures ∙ c.in-Err.is)) in
    record { answer = c.refused.ensures ∙ done.0; list = done.1 }

pub returns-then-is_empty : goal.returns-then-is_empty
returns-then-is_empty c =
    let none = eqb-true _ _ (sym c.is_empty.ensures ∙ c.if-is_empty.true) in
    let done = close_wrong _ c.args.list.now (close_short _ _ (sym c.judge.ensures ∙ c.in_default.is) (omega (arith, none))) in
    record { answer = c.refused-then-is_empty.ensures ∙ done.0; list = done.1 }

pub returns-then-carry-gt0 : goal.returns-then-carry-gt0
returns-then-carry-gt0 c =
    let some = eqb-false _ _ (sym c.is_empty.ensures ∙ c.if-is_empty.false) in
    let done = close_writes _ c.args.list.now (close_fine _ _ (sym c.judge.ensures ∙ c.in_default.is) (omega (arith, some))) c.if-carry-gt0.true in
    record { answer = c.wrote.ensures ∙ done.0; list = done.1 }

pub returns : goal.returns
returns c =
    let some = eqb-false _ _ (sym c.is_empty.ensures ∙ c.if-is_empty.false) in
    let done = close_stays _ c.args.list.now (close_fine _ _ (sym c.judge.ensures ∙ c.in_default.is) (omega (arith, some))) c.if-carry-gt0.false in
    record { answer = c.wrote-2.ensures ∙ done.0; list = done.1 }
