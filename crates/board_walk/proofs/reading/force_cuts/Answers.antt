-- `board_walk::reading::force_cuts` meets its contract: a cut more is forced, or none is left.
use Rattle.std.proofs.Common.{refl, sym, ap, arith}
use Rattle.lists.proofs.Putting.{begin, rest-is, more, ended, put_last}
use Rattle.board_walk.specs.Walk.{forced_up_to}
use Rattle.board_walk.proofs.Offsets.{forces, forced_none, forced_more}
use Rattle.board_walk.proofs.reading.force_cuts.Goals as goal

pub loop-made-init : goal.loop-made-init
loop-made-init c = record { within = c.requires; way = begin _ _ refl refl }

pub put-requires : goal.put-requires
put-requires c = omega (arith, forces c.args.rule)

pub loop-made-smaller : goal.loop-made-smaller
loop-made-smaller c = omega (arith, forces c.args.rule, put_last c.put.ensures)

pub loop-made-preserved : goal.loop-made-preserved
loop-made-preserved c =
    let new = put_last c.put.ensures in
    record {
      within = omega (arith, new);
      way = rest-is _ (ap (forced_up_to _ _) (sym new)) (more _ (rest-is _ (forced_more _ (forces c.args.rule) _ _ (omega arith)) c.loop-made.invariant.way) c.put.ensures);
    }

pub returns : goal.returns
returns c = ended (rest-is _ (forced_none _ (forces c.args.rule) _ _ (omega arith)) c.loop-made.invariant.way)
