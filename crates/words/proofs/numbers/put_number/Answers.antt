-- A byte more is written; at the end all of them are.
use Rattle.std.proofs.Common.{◌≤◌, length, sym, ◌∙◌, arith, take_all}
use Rattle.laws.proofs.Writing.{over_none, over_full}
use Rattle.words.specs.Numbers.{big_endian}
use Rattle.words.proofs.BigEndian.{byte_written, length-big_endian}
use Rattle.words.proofs.numbers.put_number.Goals as goal

pub loop-i-init : goal.loop-i-init
loop-i-init c = sym (over_none _)

pub loop-i-preserved : goal.loop-i-preserved
loop-i-preserved c = rw c.loop-i.invariant (byte_written _ _ _ c.loop-i-test.true)

pub returns : goal.returns
returns c =
    let width = length c.args.bytes.now in
    let whole : length (big_endian width c.args.number) ≤ c.loop-i.i = rw length-big_endian (omega arith) in
    c.loop-i.invariant ∙ rw (take_all _ _ whole) (over_full _ _ (sym (length-big_endian width c.args.number)))
