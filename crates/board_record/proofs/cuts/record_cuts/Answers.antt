-- `board_record::cuts::record_cuts` meets its contract: each turn puts the next cut.
use Rattle.std.proofs.Common.{refl, arith}
use Rattle.terms.proofs.Ranges.{ranges}
use Rattle.lists.proofs.Putting.{begin, put_last}
use Rattle.board_record.proofs.Stretching.{rises_past, cut_on, cuts_done}
use Rattle.board_record.proofs.cuts.record_cuts.Goals as goal

pub loop-next-init : goal.loop-next-init
loop-next-init c = record { from = c.requires.0; inside = c.requires.1; way = begin _ _ refl refl }

pub put-requires : goal.put-requires
put-requires c = rises_past _ _ _ (ranges _ c.args.cutter.now.ranged) _ c.loop-next.invariant.from c.in-Some.ensures.stays.1

pub loop-next-smaller : goal.loop-next-smaller
loop-next-smaller c =
    let up = rises_past _ _ _ (ranges _ c.args.cutter.now.ranged) _ c.loop-next.invariant.from c.in-Some.ensures.stays.1 in
    omega (arith, put_last c.put.ensures, up, c.in-Some.ensures.stays.0)

pub loop-next-preserved : goal.loop-next-preserved
loop-next-preserved c =
    let stays = c.in-Some.ensures.stays in
    cut_on _ _ _ (ranges _ c.args.cutter.now.ranged) c.loop-next.invariant stays.0 stays.1 c.put.ensures

pub returns : goal.returns
returns c = cuts_done _ _ _ (ranges _ c.args.cutter.now.ranged) c.loop-next.invariant c.in_default.ensures.leaves
