-- The masked signature is its low bits.
use Rattle.std.proofs.Common.{ap, nat_eq}
use Rattle.cutting.specs.Marks.{matches}
use Rattle.cutting.proofs.Masked.{masked}
use Rattle.cutting.proofs.search.Marks.matches.Goals as goal

pub returns : goal.returns
unfolding matches
returns c = ap (λ low. nat_eq low c.args.self.now.settings.target) (masked c.args.self.now.settings c.args.signature c.args.self.now.few_bits)
