-- `board_bays::segments::Segment::start` meets its contract.
use Rattle.std.proofs.Common.{refl, arith}
use Rattle.board_bays.specs.Segments.{segment_start}
use Rattle.board_bays.proofs.Ranges.{begins_in}
use Rattle.board_bays.proofs.segments.Segment.start.Goals as goal

pub overflow_mul-result : goal.overflow_mul-result
unfolding segment_start
overflow_mul-result c = let there = c.args.self.there in omega (arith, begins_in there, there.short)

pub returns : goal.returns
unfolding segment_start
returns c = refl
