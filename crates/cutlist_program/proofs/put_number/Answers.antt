-- The digits that are put are the number's spelling.
use Rattle.std.proofs.Common.{◌∙◌}
use Rattle.cutlist_program.proofs.Texts.{spelled_by}
use Rattle.cutlist_program.proofs.put_number.Goals as goal

pub returns-clause-items : goal.returns-clause-items
returns-clause-items g c =
    let count = c.decimal-count in
    rw (count.ensures.digits ∙ spelled_by c.args.n count.result c.ranges.n.fits count.ensures.len) at c.put.ensures.items
