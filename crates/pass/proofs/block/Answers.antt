-- Each `return` stands at its row, and past them only the guard is left.
use Rattle.std.specs.Prelude.{Ok}
use Rattle.std.proofs.Common.{◌≡◌, ◌∙◌, refl, sym, length, rules, arith}
use borrow.Author.Tests.{lt-ltb, le-ltb, eqb-true}
use Rattle.terms.specs.declared.Refusal.TheVariants.{ListFull}
use Rattle.terms.specs.Rows.{verdict}
use Rattle.terms.proofs.Verdicts.{top, past, skips, stopped, stopped_in, wrote}
use Rattle.pass_carry.specs.declared.Carry.{Carry}
use Rattle.pass_carry.specs.Outcomes.{refused, carry_rows}
use Rattle.pass_carry.proofs.Rows.{plain_carry, passed}
use Rattle.pass_carry.proofs.Usable.{Usable, usable}
use Rattle.pass_block.specs.Taking.{taken_outcome}
use Rattle.pass.specs.Calls.{block_rows, block_outcome, block_leaves}
use Rattle.pass.proofs.Blocks.{block_empty, guarded}
use Rattle.pass.proofs.block.Goals as goal

sound : (carry : Carry) → verdict (carry_rows carry) ≡ Ok tt → length carry.window ≡ 48 → Usable carry
sound carry admitted whole = let fine = passed carry admitted in usable carry fine.0 fine.1 whole

pub returns-in-Err : goal.returns-in-Err
unfolding block_outcome block_leaves block_rows
returns-in-Err c =
    let done = stopped_in ListFull (refused c.args.carry) _ _ _ (carry_rows c.args.carry) _ top (sym c.judge.ensures ∙ c.in-Err.is) (plain_carry c.args.carry) in
    record { answer = c.refused.ensures ∙ done.0; list = done.1 }

pub overflow_add-carry : goal.overflow_add-carry
overflow_add-carry c =
    omega (arith, (sound c.args.carry (sym c.judge.ensures ∙ c.in_default.is) (search rules)).short)

pub returns-then-carry-count-gt-LONGEST : goal.returns-then-carry-count-gt-LONGEST
unfolding block_outcome block_leaves block_rows
returns-then-carry-count-gt-LONGEST c =
    let admitted = sym c.judge.ensures ∙ c.in_default.is in
    let done = stopped ListFull (refused c.args.carry) _ _ _ (skips _ admitted top) (lt-ltb _ _ c.if-carry-count-gt-LONGEST.true) refl in
    record { answer = c.refused-then-carry-count-gt-LONGEST.ensures ∙ done.0; list = done.1 }

pub nonzero_div-count : goal.nonzero_div-count
nonzero_div-count c =
    omega (arith, (sound c.args.carry (sym c.judge.ensures ∙ c.in_default.is) (search rules)).ranged.window-fits)

pub returns-then-places-count : goal.returns-then-places-count
unfolding block_outcome block_leaves block_rows
returns-then-places-count c =
    let admitted = sym c.judge.ensures ∙ c.in_default.is in
    let short = past (le-ltb _ _ c.if-carry-count-gt-LONGEST.false) top in
    let done = stopped ListFull (refused c.args.carry) _ _ _ (skips _ admitted short) (lt-ltb _ _ c.if-places-count.true) refl in
    record { answer = c.refused-then-places-count.ensures ∙ done.0; list = done.1 }

pub returns-then-is_empty : goal.returns-then-is_empty
unfolding block_outcome block_leaves taken_outcome
returns-then-is_empty c =
    let admitted = sym c.judge.ensures ∙ c.in_default.is in
    let none = block_empty c.args.carry c.args.bytes.now c.args.list.now (eqb-true _ _ (sym c.is_empty.ensures ∙ c.if-is_empty.true)) in
    let only-guard = guarded _ _ _ admitted c.if-carry-count-gt-LONGEST.false c.if-places-count.false in
    let done = wrote ListFull (refused c.args.carry) _ _ _ only-guard none.0 none.1 in
    record { answer = c.wrote.ensures ∙ done.0; list = done.1 }

pub take_block-requires-clause-settings_value : goal.take_block-requires-clause-settings_value
take_block-requires-clause-settings_value c = passed c.args.carry (sym c.judge.ensures ∙ c.in_default.is)

pub returns : goal.returns
unfolding block_outcome block_leaves taken_outcome
returns c =
    let admitted = sym c.judge.ensures ∙ c.in_default.is in
    let only-guard = guarded _ _ _ admitted c.if-carry-count-gt-LONGEST.false c.if-places-count.false in
    let done = wrote ListFull (refused c.args.carry) _ _ _ only-guard c.take_block.ensures.answer c.take_block.ensures.list in
    record { answer = done.0; list = done.1 }
