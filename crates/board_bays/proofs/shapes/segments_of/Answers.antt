-- `board_bays::shapes::segments_of` meets its contract.
use Rattle.std.proofs.Common.{◌∙◌, arith}
use Rattle.board_bays.proofs.Ranges.{rounded_up}
use Rattle.board_bays.proofs.shapes.segments_of.Goals as goal

pub returns : goal.returns
returns c = c.div_ceil.ensures ∙ rounded_up c.args.n c.args.size (omega arith)
