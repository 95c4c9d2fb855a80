-- An offset more is written; at the end all of them are.
use Rattle.std.proofs.Common.{◌≤◌, length, sym, ap, ◌∙◌, arith, lit<, take_all}
use Rattle.std.specs.Iterator.Adapters.{enumerate_source, enumerate_count}
use Rattle.laws.proofs.Writing.{over_none, over_next}
use Rattle.words.specs.Numbers.{numbers_of}
use Rattle.words.proofs.Chunks.{chunks_start, chunk_more, chunks_end}
use Rattle.sheet_format.proofs.Offsets.{length_offsets}
use Rattle.sheet_format.proofs.body.take_offsets.Goals as goal

pub loop-i-init : goal.loop-i-init
loop-i-init c =
    let same = c.into_iter-i-iterator.ensures.into_iter_gives in
    let none = ap enumerate_count same ∙ c.enumerate-i-items.ensures.count in
    let all = ap enumerate_source same ∙ c.enumerate-i-items.ensures.source in
    record { left = rw (none, all) (chunks_start 8 (lit< tt) _ _ c.chunks_exact.ensures.rest c.chunks_exact.ensures.size); offsets = rw none (sym (over_none _)) }

pub loop-i-preserved : goal.loop-i-preserved
loop-i-preserved c =
    let turn = c.in-Some.ensures.steps in
    let h = chunk_more 8 (lit< tt) _ _ _ _ c.loop-i.invariant.left c.in-Some.place turn.0 in
    record {
      left = rw turn.2 h.2;
      offsets =
          rw (turn.1, turn.2, c.number.ensures.0, ← h.1, c.loop-i.invariant.offsets)
          (over_next _ _ _ h.0 (omega (arith, h.0, length_offsets c.args.body.now, c.requires)));
    }

pub returns : goal.returns
returns c =
    let all : length (numbers_of 8 c.args.body.now) ≤ enumerate_count c.loop-i.i-iterator = chunks_end 8 (lit< tt) _ _ _ _ c.loop-i.invariant.left c.in-None.ensures.steps.0 in
    rw (take_all _ _ all) at c.loop-i.invariant.offsets
