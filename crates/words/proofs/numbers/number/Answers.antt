-- A byte more keeps the number within its range.
use Rattle.std.proofs.Common.{◌+◌, ◌<◌, sym, ◌∙◌, arith, lit<, rules}
use Rattle.words.specs.Numbers.{number}
use Rattle.words.proofs.BigEndian.{number_more, byte_more, within_64, eight_weighed}
use Rattle.words.proofs.numbers.number.Goals as goal

pub loop-byte-init : goal.loop-byte-init
unfolding number
loop-byte-init c = search rules

pub overflow_mul-high : goal.overflow_mul-high
overflow_mul-high c =
    record {
      fits = within_64 (c.loop-byte.byte-index + 1) (omega arith) (omega (arith, byte_more c.loop-byte.byte-index c.loop-byte.invariant.small (lit< {m = 0} {n = 256} tt)));
    }

pub overflow_add-high : goal.overflow_add-high
overflow_add-high c =
    let byte : c.from.result < 256 = rw c.from.ensures (omega (arith, c.type_inv.bytes c.loop-byte.byte-index)) in
    record { fits = within_64 (c.loop-byte.byte-index + 1) (omega arith) (byte_more c.loop-byte.byte-index c.loop-byte.invariant.small byte) }

pub loop-byte-preserved : goal.loop-byte-preserved
loop-byte-preserved c =
    let byte : c.from.result < 256 = rw c.from.ensures (omega (arith, c.type_inv.bytes c.loop-byte.byte-index)) in
    record {
      value = rw (c.from.ensures, c.loop-byte.invariant.value) (sym (number_more _ _ c.loop-byte-test.true));
      small = byte_more c.loop-byte.byte-index c.loop-byte.invariant.small byte;
    }

pub returns-in-Ok : goal.returns-in-Ok
returns-in-Ok c =
    let whole = c.in-Ok.ensures.1 in
    (rw whole.same at c.from_be_bytes.ensures ∙ eight_weighed c.args.bytes.now whole.long, rw whole.long (omega (arith, c.from_be_bytes.type_inv)))
