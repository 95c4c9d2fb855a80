-- The four runs that are put are the two numbers, what stands between them and the line end.
use Rattle.std.proofs.Common.{append_assoc, rules}
use Rattle.cutlist_program.specs.Text.{pair}
use Rattle.cutlist_program.proofs.put_pair.Goals as goal

pub returns-clause-items : goal.returns-clause-items
unfolding pair
returns-clause-items g c = search (rules, append_assoc)
