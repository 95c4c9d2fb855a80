-- A turn of the loop, and its end, is one law about what the loop keeps.
use Rattle.std.proofs.Common.{◌∙◌, sym, rules}
use Rattle.pass_carry.proofs.Usable.{usable}
use Rattle.pass_block.proofs.Fills.{start, above, turn, falls, done}
use Rattle.pass_block.proofs.filling.fill.Goals as goal

pub overflow_sub-carry : goal.overflow_sub-carry
overflow_sub-carry c =
    (usable c.args.carry (rw c.requires.settings at c.args.cutter.now.ranged) c.requires.in_order (search rules)).begun

pub loop-carry-init : goal.loop-carry-init
loop-carry-init c =
    let sound = usable c.args.carry (rw c.requires.settings at c.args.cutter.now.ranged) c.requires.in_order (search rules) in
    start _ _ sound c.requires.block_nonzero.0 _ c.after-made.ensures.count c.after-made.ensures.cut _ c.requires.first_value

pub put-requires : goal.put-requires
put-requires c =
    let sound = usable c.args.carry (rw c.requires.settings at c.args.cutter.now.ranged) c.requires.in_order (search rules) in
    let cuts = rw c.requires.settings at (sym c.is_cut.ensures ∙ c.loop-carry-test.true) in
    above _ _ sound c.requires.block_nonzero.0 c.loop-carry.invariant _ c.requires.signature_value cuts

pub loop-carry-smaller : goal.loop-carry-smaller
loop-carry-smaller c =
    let sound = usable c.args.carry (rw c.requires.settings at c.args.cutter.now.ranged) c.requires.in_order (search rules) in
    let cuts = rw c.requires.settings at (sym c.is_cut.ensures ∙ c.loop-carry-test.true) in
    let next = rw c.requires.settings at c.following-next.ensures in
    falls _ _ sound c.requires.block_nonzero.0 c.loop-carry.invariant _ c.requires.signature_value cuts c.put.ensures next

pub loop-carry-preserved : goal.loop-carry-preserved
loop-carry-preserved c =
    let sound = usable c.args.carry (rw c.requires.settings at c.args.cutter.now.ranged) c.requires.in_order (search rules) in
    let cuts = rw c.requires.settings at (sym c.is_cut.ensures ∙ c.loop-carry-test.true) in
    let next = rw c.requires.settings at c.following-next.ensures in
    turn _ _ sound c.requires.block_nonzero.0 c.loop-carry.invariant _ c.requires.signature_value cuts c.put.ensures next

pub returns : goal.returns
returns c =
    let sound = usable c.args.carry (rw c.requires.settings at c.args.cutter.now.ranged) c.requires.in_order (search rules) in
    let none = rw c.requires.settings at (sym c.is_cut.ensures ∙ c.loop-carry-test.false) in
    done _ _ sound c.requires.block_nonzero.0 c.loop-carry.invariant _ c.requires.signature_value none
