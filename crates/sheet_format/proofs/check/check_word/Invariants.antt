-- The sum so far is that of the words so far, modulo 2^32.
use Rattle.std.proofs.Common.{◌≡◌, ◌%◌, ◌^◌, length, take}
use Rattle.words.specs.Numbers.{numbers_of}
use Rattle.words.proofs.Chunks.{Left}
use Rattle.sheet_format.specs.Forms.{total}
use Rattle.sheet_format.proofs.check.check_word.Given as goal

abbrev pub invariant-loop-word : goal.invariant-loop-word
invariant-loop-word l =
    record {
      left : Left 4 (numbers_of 4 l.bytes) (length l.yielded) l.word-iterator;
      sum : l.sum ≡ total (take (length l.yielded) (numbers_of 4 l.bytes)) % 2 ^ 32;
    }
