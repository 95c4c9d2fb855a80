-- The invariant of `amending::parts::put_moved`: writing what is left leaves what writing all of it would have left.
use Rattle.std.proofs.Common.{◌≡◌, ◌+◌, drop, map}
use Rattle.std.proofs.lemmas.List.Edits.{sets}
use Rattle.amending.specs.Parts.{shifted}
use Rattle.amending.proofs.parts.put_moved.Given as goal

abbrev pub invariant-loop-i : goal.invariant-loop-i
invariant-loop-i l =
    sets l.fn.list l.at (map (shifted l.removed l.added) l.part) ≡ sets l.list (l.at + l.i) (map (shifted l.removed l.added) (drop l.i l.part))
