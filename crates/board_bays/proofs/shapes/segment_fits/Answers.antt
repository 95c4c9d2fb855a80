-- `board_bays::shapes::segment_fits` meets its contract: a board that fits has a size.
use Rattle.std.proofs.Common.{sym, ◌∙◌}
use Rattle.board_bays.proofs.Ranges.{board_shape}
use Rattle.board_bays.proofs.shapes.segment_fits.Goals as goal

pub segments_of-requires : goal.segments_of-requires
segments_of-requires c = (board_shape _ _ _ _ (sym c.board_fits.ensures ∙ c.if-board_fits.true)).large
