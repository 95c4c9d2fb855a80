-- `board_bays::segments::Board::bay` meets its contract: the bay lies within the board, and is wide enough.
use Rattle.std.proofs.Common.{refl}
use Rattle.board_bays.proofs.Ranges.{board_shape, bay_within, length_bay}
use Rattle.board_bays.proofs.segments.Board.bay.Goals as goal

pub bay_at-requires : goal.bay_at-requires
bay_at-requires c = bay_within (board_shape _ _ _ _ c.args.self.now.fits) _ _ refl c.requires

pub invariant_of-result : goal.invariant_of-result
invariant_of-result c =
    let shape = board_shape _ _ _ _ c.args.self.now.fits in
    record { wide = rw (c.bay_at.ensures, length_bay _ _ _ (bay_within shape _ _ refl c.requires)) shape.wide }
