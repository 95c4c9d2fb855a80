-- The part that is lent is the definition's.
use Rattle.sheet_format.proofs.Lent.{sheet_lent}
use Rattle.sheet_format.proofs.body.sheet_in.Goals as goal

pub returns : goal.returns
returns c = sheet_lent _ c.requires
