-- At each offset the signature there is at hand, and no mark lies before it.
use Rattle.std.proofs.Common.{◌-◌}
use Rattle.cutting.proofs.Searching.{Searching}
use Rattle.cutting.proofs.search.Marks.seek.Given as goal

abbrev pub invariant-loop-here : goal.invariant-loop-here
invariant-loop-here l = Searching l.self.settings l.log l.initial.here.at l.last l.here

abbrev pub decreases-loop-here : goal.decreases-loop-here
decreases-loop-here l = l.last - l.here.at
