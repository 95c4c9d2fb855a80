-- `amending::recutting::recut` meets its contract: a cut that meets ends it, any other is put, and the log's end leaves no back.
use Rattle.std.proofs.Common.{◌≡◌, ℕ, Bool, List, drop, length-drop, refl, sym, arith}
use Rattle.laws.proofs.Slices.{rest_from}
use Rattle.laws.specs.Last.{last_or}
use Rattle.rule.specs.Rule.{cuts_from}
use Rattle.lists.proofs.Putting.{begin}
use Rattle.cutting.proofs.Marked.{log_rising}
use Rattle.amending.specs.declared.edits.Edit.{Edit}
use Rattle.amending.specs.Parts.{meets}
use Rattle.amending.specs.Inner.{Ascends, passed_by}
use Rattle.amending.proofs.Looking.{Looked, ascends_after, looked}
use Rattle.amending.proofs.Recuts.{recut_ended, recut_met, recut_more}
use Rattle.amending.proofs.recutting.recut.Goals as goal

-- what a look at a new cut told
seen : {edit : Edit} (past : List ℕ) (passed : ℕ) {cut more : ℕ} {met : Bool} → Ascends past
    → (more ≡ passed_by edit (drop passed past) cut) × (meets edit (drop passed past) cut ≡ met) → Looked edit cut (drop passed past) more met
seen past passed rises told = looked _ _ _ (ascends_after passed past rises) told.0 (sym told.1)

pub loop-made-init : goal.loop-made-init
loop-made-init c = record { puts = begin _ _ refl refl; onward = refl; within = omega arith; behind = λ t h. refl }

pub look-requires-clause-added_bound : goal.look-requires-clause-added_bound
look-requires-clause-added_bound c =
    let bounds = c.requires.added_bound in
    (bounds.0, omega (arith, (log_rising _ _ c.args.cutter.now.ranged).within _ c.loop-made-test.true, c.next_cut-cut.ensures, bounds.1))

pub overflow_add-result : goal.overflow_add-result
overflow_add-result c =
    let told = seen c.args.past.now c.loop-made.passed c.requires.ascends (rw rest_from at c.in-Ok.ensures.met) in
    omega (arith, told.within, length-drop c.loop-made.passed c.args.past.now, c.loop-made.invariant.within)

pub returns-in-Ok : goal.returns-in-Ok
unfolding cuts_from
returns-in-Ok c =
    let told = seen c.args.past.now c.loop-made.passed c.requires.ascends (rw rest_from at c.in-Ok.ensures.met) in
    recut_met c.loop-made.invariant (log_rising _ _ c.args.cutter.now.ranged) c.loop-made-test.true _ c.next_cut-cut.ensures told c.requires.ascends refl

pub overflow_add-passed : goal.overflow_add-passed
overflow_add-passed c =
    let told = seen c.args.past.now c.loop-made.passed c.requires.ascends (rw rest_from at c.in-Err.ensures.unmet) in
    omega (arith, told.within, length-drop c.loop-made.passed c.args.past.now, c.loop-made.invariant.within)

pub put-requires : goal.put-requires
put-requires c = omega (arith, (log_rising _ _ c.args.cutter.now.ranged).rises _ c.loop-made-test.true, c.next_cut-cut.ensures)

pub loop-made-smaller : goal.loop-made-smaller
unfolding last_or
loop-made-smaller c =
    omega (arith, (log_rising _ _ c.args.cutter.now.ranged).rises _ c.loop-made-test.true, c.next_cut-cut.ensures, c.put.ensures.last)

pub loop-made-preserved : goal.loop-made-preserved
loop-made-preserved c =
    let told = seen c.args.past.now c.loop-made.passed c.requires.ascends (rw rest_from at c.in-Err.ensures.unmet) in
    recut_more c.loop-made.invariant (log_rising _ _ c.args.cutter.now.ranged) c.loop-made-test.true _ c.next_cut-cut.ensures told refl c.put.ensures

pub returns : goal.returns
unfolding cuts_from
returns c = recut_ended c.loop-made.invariant c.loop-made-test.false
