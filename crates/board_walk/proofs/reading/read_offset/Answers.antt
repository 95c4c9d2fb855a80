-- `board_walk::reading::read_offset` meets its contract: the forced cuts below the offset, then the offset if it is far enough.
use Rattle.std.proofs.Common.{arith}
use Rattle.board_walk.proofs.Offsets.{forces}
use Rattle.board_walk.proofs.Walks.{forced_below, offset_passed, offset_cut}
use Rattle.board_walk.proofs.reading.read_offset.Goals as goal

pub overflow_sub-p-2 : goal.overflow_sub-p-2
overflow_sub-p-2 c = omega (arith, forced_below 0 _ _ _ _ _ _ (forces c.args.rule) c.requires c.force_cuts-forced.ensures)

pub put-requires : goal.put-requires
put-requires c = forced_below 0 _ _ _ _ _ _ (forces c.args.rule) c.requires c.force_cuts-forced.ensures

pub returns-then-p-forced : goal.returns-then-p-forced
returns-then-p-forced c = offset_cut _ _ _ _ _ _ _ (forces c.args.rule) c.requires c.force_cuts-forced.ensures c.if-p-forced.true c.put.ensures

pub returns-else-p-forced : goal.returns-else-p-forced
returns-else-p-forced c = offset_passed _ _ _ _ _ _ _ (forces c.args.rule) c.requires c.force_cuts-forced.ensures c.if-p-forced.false
