-- Each table's rule is one test over all its entries.
use Rattle.std.proofs.Common.{◌*◌, refl}
use lib.Dec.{lit<}
use Rattle.signature.specs.Polynomials.{clmul, rem}
use Rattle.signature.specs.Signatures.{degree, low_part, span, leaving_table, pushed_table}
use Rattle.signature.proofs.Powers.{multiples}
use Rattle.signature.proofs.Remainders.{rem_power}
use Rattle.signature.proofs.Tables.new.Goals as goal

pub invariant_of-result-clause-leaving_is : goal.invariant_of-result-clause-leaving_is
unfolding leaving_table clmul rem
invariant_of-result-clause-leaving_is c = multiples degree low_part (lit< tt) (8 * span) 17_961_248 refl _ tt

pub invariant_of-result-clause-pushed_is : goal.invariant_of-result-clause-pushed_is
unfolding pushed_table clmul rem
invariant_of-result-clause-pushed_is c = multiples degree low_part (lit< tt) degree low_part (rem_power degree low_part (lit< tt)) _ tt
