-- A word more is added; what the sum lacks to zero is the check word.
use Rattle.std.proofs.Common.{◌≡◌, ◌+◌, ◌≤◌, ◌%◌, ◌^◌, [], ◌∷◌, ◌++◌, length, refl, ap, ◌∙◌, arith, lit<, take_all, length-append}
use Rattle.std.specs.Slice.Iter.{chunks_exact_rest, chunks_exact_size}
use Rattle.words.specs.Numbers.{numbers_of}
use Rattle.words.proofs.Chunks.{chunks_start, chunk_more, chunks_end}
use Rattle.sheet_format.specs.Forms.{total}
use Rattle.sheet_format.proofs.CheckWord.{sum_more, check_is}
use Rattle.sheet_format.proofs.check.check_word.Goals as goal

pub loop-word-init : goal.loop-word-init
unfolding total
loop-word-init c =
    record {
      left =
          chunks_start 4 (lit< tt) _ _ (ap chunks_exact_rest c.into_iter-word-iterator.ensures.into_iter_gives ∙ c.chunks_exact-word-items.ensures.rest)
          (ap chunks_exact_size c.into_iter-word-iterator.ensures.into_iter_gives ∙ c.chunks_exact-word-items.ensures.size);
      sum = refl;
    }

pub loop-word-preserved : goal.loop-word-preserved
loop-word-preserved c =
    let h = chunk_more 4 (lit< tt) _ _ _ _ c.loop-word.invariant.left c.in-Some.word c.in-Some.ensures.steps in
    let next : length (c.loop-word.yielded ++ c.in-Some.word ∷ []) ≡ length c.loop-word.yielded + 1 = length-append c.loop-word.yielded _ in
    record { left = rw next h.2; sum = rw (next, c.loop-word.invariant.sum, c.number.ensures.0) (sum_more _ _ h.0 h.1) }

pub returns : goal.returns
returns c =
    let all : length (numbers_of 4 c.args.bytes.now) ≤ length c.loop-word.yielded = chunks_end 4 (lit< tt) _ _ _ _ c.loop-word.invariant.left c.in-None.ensures.steps in
    let sum : c.loop-word.sum ≡ total (numbers_of 4 c.args.bytes.now) % 2 ^ 32 = rw (take_all _ _ all) at c.loop-word.invariant.sum in
    check_is _ _ (omega arith) (omega arith)
