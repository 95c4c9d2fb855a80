-- `board_record::marks::record_after` meets its contract: a mark is put, and is the marker or not.
use Rattle.std.proofs.Common.{refl, sym, ◌∙◌, arith}
use Rattle.lists.proofs.Putting.{begin, put_last}
use Rattle.board_record.proofs.Slow.{slow_none, slow_on, slow_marker}
use Rattle.board_record.proofs.marks.record_after.Goals as goal

pub loop-next-init : goal.loop-next-init
loop-next-init c =
    let asked = c.requires.first_mark in
    record { low = asked.0; inside = asked.1; here = asked.2; last = c.requires.put; marker = refl; way = begin _ _ refl refl }

pub record_cuts-all-requires : goal.record_cuts-all-requires
record_cuts-all-requires c =
    let last = put_last c.put.ensures in
    (omega (arith, last), omega (arith, last, c.in-Some.ensures.found.inside))

pub returns-then-is_marker : goal.returns-then-is_marker
returns-then-is_marker c =
    let w = c.loop-next.invariant in
    slow_marker w c.in-Some.ensures.found c.put.ensures (rw w.last at (sym c.is_marker.ensures ∙ c.if-is_marker.true)) c.record_cuts-all.ensures

pub loop-next-preserved : goal.loop-next-preserved
loop-next-preserved c =
    let w = c.loop-next.invariant in
    slow_on w c.in-Some.ensures.found c.put.ensures (rw w.last at (sym c.is_marker.ensures ∙ c.if-is_marker.false))

pub returns : goal.returns
returns c = slow_none c.loop-next.invariant c.in_default.ensures.none
