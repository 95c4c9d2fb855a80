-- Each way out of the loop, and a turn of it, is one law about what the loop keeps.
use Rattle.std.proofs.Common.{sym, ◌∙◌}
use Rattle.signature.proofs.Windows.{signature_lt}
use Rattle.cutting.proofs.Searching.{turn, on_mark, at_end}
use Rattle.cutting.proofs.search.Marks.seek.Goals as goal

pub roll-requires : goal.roll-requires
roll-requires c = signature_lt _ c.loop-here.invariant.here

pub loop-here-preserved : goal.loop-here-preserved
loop-here-preserved c =
    turn _ _ c.requires.bounds.0 c.requires.bounds.2 c.loop-here.invariant (λ j. (c.type_inv.log j).fits) (sym c.matches.ensures ∙ c.if-matches.false) c.if-here-last.false
    _ c.roll.ensures

pub returns-then-matches-clause-found : goal.returns-then-matches-clause-found
returns-then-matches-clause-found c =
    on_mark _ _ c.requires.bounds.0 c.requires.bounds.2 c.loop-here.invariant (sym c.matches.ensures ∙ c.if-matches.true)

pub returns-then-here-last-clause-ended : goal.returns-then-here-last-clause-ended
returns-then-here-last-clause-ended c =
    at_end _ _ c.requires.bounds.0 c.requires.bounds.2 c.loop-here.invariant (sym c.matches.ensures ∙ c.if-matches.false) c.if-here-last.true
