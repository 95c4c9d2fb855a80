-- What `push` gives, and the leaving byte's entry taken away.
use Rattle.std.proofs.Common.{ℕ, ◌*◌, ◌^◌, ◌∙◌, ap, ap₂, List, get_or}
use lib.Bits.{bit_xor}
use Rattle.laws.proofs.Tables.{get_d_tabulate}
use Rattle.signature.specs.Polynomials.{rem}
use Rattle.signature.specs.Signatures.{degree, low_part, span, rolled, leaving_table}
use Rattle.signature.proofs.Tables.roll.Goals as goal

pub returns : goal.returns
unfolding rolled leaving_table
returns c =
    ap₂ bit_xor c.push.ensures
    (ap (λ (table : List ℕ). get_or table c.args.leaves 0) c.args.self.now.leaving_is
    ∙ get_d_tabulate (λ b. rem degree low_part (b * 2 ^ (8 * span))) 256 c.args.leaves c.ranges.leaves.fits)
