-- In settings in range the minimum is at most the maximum.
use Rattle.terms.proofs.Ranges.{ranges}
use Rattle.board_record.proofs.marks.is_marker.Goals as goal

pub overflow_sub-result : goal.overflow_sub-result
overflow_sub-result c = (ranges _ c.args.cutter.now.ranged).ordered
