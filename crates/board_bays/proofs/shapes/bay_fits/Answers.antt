-- `board_bays::shapes::bay_fits` meets its contract: a shape that fits has a size.
use Rattle.std.proofs.Common.{sym, ◌∙◌}
use Rattle.board_bays.proofs.Ranges.{sizes}
use Rattle.board_bays.proofs.shapes.bay_fits.Goals as goal

pub segments_of-requires : goal.segments_of-requires
segments_of-requires c = (sizes _ _ (sym c.shape_fits.ensures ∙ c.if-shape_fits.true)).0
