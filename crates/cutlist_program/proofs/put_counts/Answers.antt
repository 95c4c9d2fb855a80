-- The two runs that are put are the last line.
use Rattle.std.proofs.Common.{append_assoc, rules}
use Rattle.cutlist_program.specs.Text.{counts}
use Rattle.cutlist_program.proofs.put_counts.Goals as goal

pub returns : goal.returns
unfolding counts
returns g c = search (rules, append_assoc)
