-- The sheet's first bytes, as many as the trailer tells of.
use Rattle.std.proofs.Common.{sym, arith, length-take-le}
use Rattle.sheet_format.specs.Clean.{body_in}
use Rattle.sheet_format.proofs.Lent.{length_sheet_in}
use Rattle.sheet_format.proofs.body.body_in.Goals as goal

pub slice_bounds-result-end : goal.slice_bounds-result-end
slice_bounds-result-end c = rw c.sheet_in-sheet.ensures (sym (length-take-le _ _ (omega (arith, length_sheet_in _ c.requires))))

pub returns : goal.returns
unfolding body_in
returns c = rw (c.sheet_in-sheet.ensures, c.requires.told)
