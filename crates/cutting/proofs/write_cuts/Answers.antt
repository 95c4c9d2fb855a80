-- A turn of the loop, and each way out of it, is one law about what the loop keeps.
use Rattle.std.proofs.Common.{arith}
use Rattle.laws.specs.Last.{last_or}
use Rattle.rule.specs.Rule.{cuts_from}
use Rattle.lists.proofs.Putting.{begin, same_long}
use Rattle.lists.proofs.Written.{list_full, all_written, puts_counted, puts_written}
use Rattle.cutting.proofs.Marked.{log_rising}
use Rattle.cutting.proofs.Chains.{turn, done}
use Rattle.cutting.proofs.write_cuts.Goals as goal

pub loop-made-init : goal.loop-made-init
loop-made-init c = simp c.after-made.ensures.cut (begin _ _ c.after-made.ensures.count c.after-made.ensures.cut)

pub put-requires : goal.put-requires
put-requires c = omega (arith, (log_rising _ _ c.new-cutter.result.ranged).rises c.loop-made.made.cut c.loop-made-test.true, c.next_cut-cut.ensures)

pub loop-made-smaller : goal.loop-made-smaller
unfolding last_or
loop-made-smaller c =
    omega (arith, (log_rising _ _ c.new-cutter.result.ranged).rises c.loop-made.made.cut c.loop-made-test.true, c.next_cut-cut.ensures, c.put.ensures.last)

pub loop-made-preserved : goal.loop-made-preserved
loop-made-preserved c = turn (log_rising _ _ c.new-cutter.result.ranged) c.loop-made.invariant c.loop-made-test.true c.next_cut-cut.ensures c.put.ensures

pub returns-then-made-list : goal.returns-then-made-list
unfolding cuts_from
returns-then-made-list c =
    let all = done (log_rising _ _ c.new-cutter.result.ranged) c.loop-made.invariant c.loop-made-test.false in
    let room = rw (same_long c.loop-made.invariant) at c.if-made-list.true in
    record { answer = rw (← c.new-cutter.ensures) (list_full _ _ (puts_counted all) room); list = rw (← c.new-cutter.ensures) (puts_written all) }

pub returns : goal.returns
unfolding cuts_from
returns c =
    let all = done (log_rising _ _ c.new-cutter.result.ranged) c.loop-made.invariant c.loop-made-test.false in
    let room = rw (same_long c.loop-made.invariant) at c.if-made-list.false in
    record { answer = rw (← c.new-cutter.ensures) (all_written _ _ (puts_counted all) room); list = rw (← c.new-cutter.ensures) (puts_written all) }
