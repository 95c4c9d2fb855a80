-- The search begins with the signature of the 48 bytes before its first offset.
use Rattle.cutting.proofs.Searching.{first_sought, none_sought, too_near}
use Rattle.cutting.proofs.search.Marks.first_mark.Goals as goal

pub returns-then-last-first : goal.returns-then-last-first
returns-then-last-first c = too_near _ _ _ c.if-last-first.true

pub returns-in-Ok : goal.returns-in-Ok
returns-in-Ok c = first_sought _ _ c.in-Ok.spot c.in-Ok.ensures.found

pub returns-in-Ok-2 : goal.returns-in-Ok-2
returns-in-Ok-2 c = none_sought _ _ c.in-Ok.spot c.in-Ok.ensures.ended
