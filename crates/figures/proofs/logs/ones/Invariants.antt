-- The log keeps its length.
use Rattle.std.proofs.Common.{◌≡◌, length}
use Rattle.figures.proofs.logs.ones.Given as goal

abbrev pub invariant-loop-place : goal.invariant-loop-place
invariant-loop-place g l = g.row.N ≡ length l.log
