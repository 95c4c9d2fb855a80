-- `board_walk::finish` meets its contract: the log's end is cut already, or is added.
use Rattle.board_walk.proofs.BayWalks.{end_cut, end_open}
use Rattle.board_walk.proofs.finish.Goals as goal

pub returns-then-forced-n : goal.returns-then-forced-n
returns-then-forced-n c = end_open _ _ _ _ _ _ c.force_cuts-forced.ensures c.if-forced-n.true c.put.ensures

pub returns-else-forced-n : goal.returns-else-forced-n
returns-else-forced-n c = end_cut _ _ _ _ _ _ c.force_cuts-forced.ensures c.if-forced-n.false
