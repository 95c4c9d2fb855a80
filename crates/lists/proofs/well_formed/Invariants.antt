-- The invariant of `lists::well_formed`: the list is well formed exactly where its steps from the entry before on fit.
use Rattle.std.proofs.Common.{◌≡◌, drop}
use Rattle.lists.specs.WellFormed.{steps_fit, well_formed}
use Rattle.lists.proofs.well_formed.Given as goal

abbrev pub invariant-loop-i : goal.invariant-loop-i
invariant-loop-i l =
    well_formed l.settings.minimum l.settings.maximum l.list ≡ steps_fit l.settings.minimum l.settings.maximum l.before (drop l.i l.list)
