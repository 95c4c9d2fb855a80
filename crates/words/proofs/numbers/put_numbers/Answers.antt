-- A number more is written where the ones before it end.
use Rattle.std.proofs.Common.{◌≡◌, ◌≤◌, ◌+◌, ◌-◌, ◌*◌, List, ℕ, ◌++◌, length, take, drop, sym, refl, arith, length-drop, length-take-le, rules}
use Rattle.laws.specs.Over.{over, over_from}
use Rattle.laws.proofs.Writing.{over_none}
use Rattle.words.specs.Numbers.{big_endian, written}
use Rattle.words.proofs.BigEndian.{length-big_endian, written_room, written_joined}
use Rattle.words.proofs.numbers.put_numbers.Goals as goal

-- a number written to a part that is lent
lent : (at width n : ℕ) (b : List ℕ) → at + width ≤ length b
    → take at b ++ (big_endian (length (take (at + width - at) (drop at b))) n ++ drop (at + width - at) (drop at b)) ≡ over_from at (big_endian width n) b
unfolding over over_from
lent at width n b room =
    let whole : at + width - at ≡ width = omega arith in
    rw (whole, length-take-le width (drop at b) (rw length-drop (omega arith)), length-big_endian) refl

pub loop-i-init : goal.loop-i-init
unfolding written
loop-i-init c = sym (over_none _)

pub overflow_mul-at : goal.overflow_mul-at
overflow_mul-at c = let room = written_room c.args.width c.loop-i.i c.args.list.now c.loop-i-test.true in search rules

pub slice_bounds-put_number-end : goal.slice_bounds-put_number-end
slice_bounds-put_number-end c = let room = written_room c.args.width c.loop-i.i c.args.list.now c.loop-i-test.true in search rules

pub loop-i-preserved : goal.loop-i-preserved
loop-i-preserved c =
    let room = written_room c.args.width c.loop-i.i c.args.list.now c.loop-i-test.true in
    rw (c.put_number.ensures, lent (c.args.width * c.loop-i.i) c.args.width _ c.loop-i.bytes (omega arith), c.loop-i.invariant)
    (written_joined _ _ _ c.loop-i-test.true _)
