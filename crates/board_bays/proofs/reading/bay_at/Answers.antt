-- `board_bays::reading::bay_at` meets its contract.
use Rattle.board_bays.proofs.Ranges.{bay_lent}
use Rattle.board_bays.proofs.reading.bay_at.Goals as goal

pub returns : goal.returns
returns c = bay_lent _ _ _
