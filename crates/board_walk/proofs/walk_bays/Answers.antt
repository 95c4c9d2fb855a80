-- `board_walk::walk_bays` meets its contract: a bay more is walked.
use Rattle.std.proofs.Common.{arith}
use Rattle.board_bays.proofs.Ranges.{reach_within}
use Rattle.board_walk.proofs.BayWalks.{start, next_bay, all_walked, ready, rising, low_after}
use Rattle.board_walk.proofs.walk_bays.Goals as goal

pub loop-i-init : goal.loop-i-init
loop-i-init c = start _ _ _ _ _ _ _ _ c.after-made.ensures.count c.after-made.ensures.cut

pub record-noted-requires : goal.record-noted-requires
record-noted-requires c = ready c.args.rule c.args.board.now c.requires _ (omega (arith, c.bays-i-end.ensures)) c.bay.ensures

pub walk_bay-made-requires : goal.walk_bay-made-requires
walk_bay-made-requires c =
    rising c.args.rule c.args.board.now c.requires _ (omega (arith, c.bays-i-end.ensures)) c.bay.ensures c.record-noted.ensures.offsets c.loop-i.invariant.low

pub loop-i-preserved : goal.loop-i-preserved
loop-i-preserved c =
    next_bay c.loop-i.invariant c.loop-i-test.true c.bay.ensures c.record-noted.ensures.marker c.record-noted.ensures.offsets c.walk_bay-made.ensures
    (low_after c.args.rule c.args.board.now c.requires _ (omega (arith, c.bays-i-end.ensures)) c.loop-i.invariant.low)

pub returns-clause-puts : goal.returns-clause-puts
returns-clause-puts c = all_walked c.loop-i.invariant c.loop-i-test.false _ c.bays-i-end.ensures

pub returns-clause-cut_le_n : goal.returns-clause-cut_le_n
returns-clause-cut_le_n c = omega (arith, c.loop-i.invariant.low, reach_within c.args.board.now.n c.args.board.now.size c.loop-i.i)
