-- `board_bays::judging::judge_bays` meets its contract: a bay is passed or decides.
use Rattle.std.proofs.Common.{◌≡◌, Err, rules, ◌∙◌, arith}
use Rattle.board_bays.proofs.Ranges.{board_shape}
use Rattle.board_bays.proofs.Sound.{judged_on, bay_wrong, judged_all, judged_whole}
use Rattle.board_bays.proofs.judging.judge_bays.Goals as goal

pub invariant_of-segment : goal.invariant_of-segment
invariant_of-segment c =
    let shape = board_shape _ _ _ _ c.args.board.now.fits in
    record { there = record { large = shape.large; bounded = shape.bounded; short = c.args.board.now.bounded; there = omega (arith, c.bays-i-end.ensures) } }

pub returns-in_err-judge_bay : goal.returns-in_err-judge_bay
returns-in_err-judge_bay c =
    let same : c.from_residual.result ≡ Err c.in_err-judge_bay.field-0.0 = search rules in
    same ∙ judged_whole _ _ _ _ _ c.bays-i-end.ensures
    (c.loop-i.invariant ∙ bay_wrong _ _ _ _ _ _ _ c.loop-i-test.true _ c.bay.ensures _ c.judge_bay.ensures _ c.in_err-judge_bay.was)

pub loop-i-preserved : goal.loop-i-preserved
loop-i-preserved c = c.loop-i.invariant ∙ judged_on _ _ _ _ _ _ _ c.loop-i-test.true _ c.bay.ensures _ c.judge_bay.ensures c.in_ok-judge_bay.was

pub returns : goal.returns
returns c = judged_whole _ _ _ _ _ c.bays-i-end.ensures (c.loop-i.invariant ∙ judged_all _ _ _ _ _ _ _ c.loop-i-test.false)
