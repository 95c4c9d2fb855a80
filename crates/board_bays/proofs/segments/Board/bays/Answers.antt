-- `board_bays::segments::Board::bays` meets its contract: a board that fits has a size.
use Rattle.board_bays.proofs.Ranges.{board_shape}
use Rattle.board_bays.proofs.segments.Board.bays.Goals as goal

pub segments_of-requires : goal.segments_of-requires
segments_of-requires c = (board_shape _ _ _ _ c.args.self.now.fits).large
