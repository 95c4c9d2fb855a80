-- The shifts and masks are long division's eight steps, by the table of what is pushed out.
use Rattle.std.proofs.Common.{ℕ, ◌*◌, ◌/◌, ◌^◌, ◌∙◌, ap, List, get_or}
use lib.Dec.{lit<, lit≤}
use lib.Pow.{shr_lt}
use Rattle.laws.proofs.Tables.{get_d_tabulate}
use Rattle.signature.specs.Polynomials.{rem}
use Rattle.signature.specs.Signatures.{degree, low_part, pushed_table}
use Rattle.signature.proofs.Windows.{grown_by_shifts}
use Rattle.signature.proofs.Tables.push.Goals as goal

pub returns : goal.returns
unfolding pushed_table
returns c =
    let s = c.args.signature in
    grown_by_shifts 23 low_part 32 (lit< tt) (lit≤ tt) s c.args.enters _ c.ranges.enters.fits
    (ap (λ (table : List ℕ). get_or table (s / 2 ^ 23) 0) c.args.self.now.pushed_is
    ∙ get_d_tabulate (λ b. rem degree low_part (b * 2 ^ degree)) 256 (s / 2 ^ 23) (shr_lt 8 23 c.requires))
