-- A turn puts the line of one cut more.
use Rattle.std.proofs.Common.{sym, refl, append-nil, append_assoc, arith}
use Rattle.laws.specs.Last.{last_or}
use Rattle.cutlist_program.specs.Text.{lines}
use Rattle.cutlist_program.proofs.Texts.{lines_next, last_next}
use Rattle.cutlist_program.proofs.put_lines.Goals as goal

pub loop-cut-init : goal.loop-cut-init
unfolding lines last_or
loop-cut-init g c = record { put = sym (append-nil _); reached = refl; room = omega arith }

pub loop-cut-preserved : goal.loop-cut-preserved
loop-cut-preserved g c =
    let u = c.loop-cut.invariant in
    let inside = c.loop-cut-test.true in
    record {
      put = rw (lines_next _ _ _ inside, ← append_assoc) (rw (u.put, c.saturating_sub.ensures, u.reached) at c.put_pair.ensures.items);
      reached = sym (last_next _ _ _ inside);
      room = omega (arith, c.put_pair.ensures.len, u.room);
    }
