-- The last offset looked at is the smaller of cut + maximum and the log's end.
use Rattle.std.proofs.Common.{arith}
use Rattle.terms.proofs.Ranges.{ranges}
use Rattle.cutting.proofs.Searching.{searched}
use Rattle.cutting.proofs.search.Cutter.next_cut.Goals as goal

pub overflow_add-first : goal.overflow_add-first
overflow_add-first c = let known = ranges _ c.args.self.now.ranged in omega (arith, known.bounded, known.ordered)

pub overflow_add-cut : goal.overflow_add-cut
overflow_add-cut c = omega (arith, (ranges _ c.args.self.now.ranged).bounded)

pub first_mark-requires : goal.first_mark-requires
first_mark-requires c = (omega (arith, (ranges _ c.args.self.now.ranged).window-fits), omega (arith, c.min-last.ensures))

pub returns : goal.returns
returns c = searched _ _ _ _ _ c.min-last.ensures c.first_mark.ensures
