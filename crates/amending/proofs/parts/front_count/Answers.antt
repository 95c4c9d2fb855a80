-- `amending::parts::front_count` meets its contract.
use Rattle.std.proofs.Common.{◌∙◌}
use Rattle.amending.proofs.Places.{below_until}
use Rattle.amending.proofs.Front.{count_is}
use Rattle.amending.proofs.parts.front_count.Goals as goal

pub returns : goal.returns
returns c = rw c.saturating_sub.ensures at c.climb.ensures ∙ below_until _ _ ∙ count_is c.args.place c.args.old.now
