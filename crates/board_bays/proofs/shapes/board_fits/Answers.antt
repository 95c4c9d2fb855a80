-- `board_bays::shapes::board_fits` meets its contract: the board is compared by dividing, so that nothing wraps.
use Rattle.std.proofs.Common.{sym, ◌∙◌, arith}
use Rattle.board_bays.specs.Segments.{board_fits}
use Rattle.board_bays.proofs.Ranges.{sizes, enough_is}
use Rattle.board_bays.proofs.shapes.board_fits.Goals as goal

pub segments_of-requires : goal.segments_of-requires
segments_of-requires c = (sizes _ _ (sym c.shape_fits.ensures ∙ c.if-shape_fits.true)).0

pub nonzero_div-result : goal.nonzero_div-result
nonzero_div-result c = omega (arith, (sizes _ _ (sym c.shape_fits.ensures ∙ c.if-shape_fits.true)).2)

pub returns-then-shape_fits : goal.returns-then-shape_fits
unfolding board_fits
returns-then-shape_fits c =
    let fine = sym c.shape_fits.ensures ∙ c.if-shape_fits.true in
    rw fine (enough_is _ _ _ _ (sizes _ _ fine).2 c.segments_of.ensures)
