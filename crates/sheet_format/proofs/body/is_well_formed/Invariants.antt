-- The offsets are well formed exactly where their steps from the entry before on fit.
use Rattle.std.proofs.Common.{◌≡◌, drop}
use Rattle.std.specs.Iterator.Adapters.{enumerate_source, enumerate_count}
use Rattle.lists.specs.WellFormed.{steps_fit, well_formed}
use Rattle.words.specs.Numbers.{numbers_of}
use Rattle.words.proofs.Chunks.{Left}
use Rattle.sheet_format.proofs.body.is_well_formed.Given as goal

abbrev pub invariant-loop-i : goal.invariant-loop-i
invariant-loop-i l =
    record {
      left : Left 8 (numbers_of 8 l.body) (enumerate_count l.i-iterator) (enumerate_source l.i-iterator);
      rest :
          well_formed l.settings.minimum l.settings.maximum (numbers_of 8 l.body)
          ≡ steps_fit l.settings.minimum l.settings.maximum l.before (drop (enumerate_count l.i-iterator) (numbers_of 8 l.body));
    }
