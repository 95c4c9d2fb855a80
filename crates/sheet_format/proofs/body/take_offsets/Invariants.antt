-- The body's first offsets are written over what was there.
use Rattle.std.proofs.Common.{◌≡◌, take}
use Rattle.std.specs.Iterator.Adapters.{enumerate_source, enumerate_count}
use Rattle.laws.specs.Over.{over}
use Rattle.words.specs.Numbers.{numbers_of}
use Rattle.words.proofs.Chunks.{Left}
use Rattle.sheet_format.proofs.body.take_offsets.Given as goal

abbrev pub invariant-loop-i : goal.invariant-loop-i
invariant-loop-i l =
    record {
      left : Left 8 (numbers_of 8 l.body) (enumerate_count l.i-iterator) (enumerate_source l.i-iterator);
      offsets : l.list ≡ over (take (enumerate_count l.i-iterator) (numbers_of 8 l.body)) l.fn.list;
    }
