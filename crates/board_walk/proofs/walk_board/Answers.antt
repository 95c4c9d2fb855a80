-- `board_walk::walk_board` meets its contract: the bays, then the end.
use Rattle.lists.proofs.Written.{puts_counted, puts_written}
use Rattle.board_walk.proofs.BayWalks.{walked}
use Rattle.board_walk.proofs.walk_board.Goals as goal

pub returns-clause-value : goal.returns-clause-value
returns-clause-value c = puts_counted (walked _ _ _ _ _ c.walk_bays-made.ensures.puts c.finish.ensures)

pub returns-clause-list_after : goal.returns-clause-list_after
returns-clause-list_after c = puts_written (walked _ _ _ _ _ c.walk_bays-made.ensures.puts c.finish.ensures)
