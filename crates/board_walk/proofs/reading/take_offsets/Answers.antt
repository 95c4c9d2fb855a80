-- `board_walk::reading::take_offsets` meets its contract: an offset more is a cut.
use Rattle.std.proofs.Common.{refl}
use Rattle.board_walk.proofs.Rises.{next-rises, rest_rises, offsets_on, offsets_end}
use Rattle.lists.proofs.Putting.{begin, rest-is, more, ended, put_last}
use Rattle.board_walk.proofs.reading.take_offsets.Goals as goal

pub loop-p-init : goal.loop-p-init
loop-p-init c = record { rising = c.requires; way = begin _ _ refl refl }

pub put-requires : goal.put-requires
put-requires c = (next-rises _ _ _ _ c.loop-p-test.true c.loop-p.invariant.rising).0

pub loop-p-preserved : goal.loop-p-preserved
loop-p-preserved c =
    let here = c.loop-p.invariant in
    record {
      rising = rw (put_last c.put.ensures) (rest_rises _ _ _ _ c.loop-p-test.true here.rising);
      way = more _ (rest-is _ (offsets_on _ _ c.loop-p-test.true) here.way) c.put.ensures;
    }

pub returns : goal.returns
returns c = ended (rest-is _ (offsets_end _ _ c.loop-p-test.false) c.loop-p.invariant.way)
