-- `board_bays::segments::Segment::end` meets its contract.
use Rattle.std.proofs.Common.{◌∙◌, arith}
use Rattle.board_bays.specs.Segments.{segment_start, segment_end}
use Rattle.board_bays.proofs.Ranges.{begins_in}
use Rattle.board_bays.proofs.segments.Segment.end.Goals as goal

pub end_of-requires : goal.end_of-requires
end_of-requires c = let there = c.args.self.there in (omega (arith, begins_in there, c.start.ensures), there.short, there.bounded)

pub returns : goal.returns
unfolding segment_start segment_end
returns c = c.end_of.ensures ∙ rw c.start.ensures
