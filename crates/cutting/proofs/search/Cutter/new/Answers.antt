-- Settings in range have at most 31 pattern bits.
use Rattle.terms.proofs.Ranges.{ranges}
use Rattle.cutting.proofs.search.Cutter.new.Goals as goal

pub invariant_of-marks : goal.invariant_of-marks
invariant_of-marks c = record { few_bits = (ranges _ c.args.rule.ranged).few_bits }
