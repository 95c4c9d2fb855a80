-- `amending::write_parts` meets its contract: proofs/Written.antt says what the three calls leave.
use Rattle.std.proofs.Common.{◌≡◌, ℕ, ◌≤◌, List, length, arith}
use Rattle.laws.proofs.Slices.{rest_from}
use Rattle.amending.specs.Parts.{front_count}
use Rattle.amending.proofs.Front.{count_fits}
use Rattle.amending.proofs.Looking.{ascends_after}
use Rattle.amending.proofs.Written.{sound, few_left, back_movable, parts_done, parts_full, parts_fit}
use Rattle.amending.proofs.write_parts.Goals as goal

-- the front is part of the old list
kept_fits : (place : ℕ) (old : List ℕ) {kept : ℕ} → kept ≡ front_count place old → kept ≤ length old
kept_fits place old is = omega (arith, is, count_fits place old)

pub front_count-kept-requires : goal.front_count-kept-requires
front_count-kept-requires c =
    let fine = sound _ _ _ _ _ c.requires.old_value c.requires.log_value.0 c.requires.log_value.1 in omega (arith, fine.place-low)

pub split_at-requires : goal.split_at-requires
split_at-requires c = kept_fits _ _ c.front_count-kept.ensures

pub invariant_of-made : goal.invariant_of-made
invariant_of-made c =
    let fine = sound _ _ _ _ _ c.requires.old_value c.requires.log_value.0 c.requires.log_value.1 in
    let kept = c.front_count-kept.result in
    record { behind = omega (arith, fine.behind kept (kept_fits _ _ c.front_count-kept.ensures), rw c.split_at.ensures.front at c.last_of.ensures) }

pub recut-passed-requires-clause-ascends : goal.recut-passed-requires-clause-ascends
recut-passed-requires-clause-ascends c =
    let fine = sound _ _ _ _ _ c.requires.old_value c.requires.log_value.0 c.requires.log_value.1 in
    rw c.split_at.ensures.back (ascends_after c.front_count-kept.result c.args.old.now fine.rises)

pub recut-passed-requires-clause-added_bound : goal.recut-passed-requires-clause-added_bound
recut-passed-requires-clause-added_bound c =
    let fine = sound _ _ _ _ _ c.requires.old_value c.requires.log_value.0 c.requires.log_value.1 in
    let short = c.requires.log_value.1 in
    (omega (arith, fine.place-low), omega (arith, fine.taken-low, short))

pub put_moved-requires-2 : goal.put_moved-requires-2
put_moved-requires-2 c =
    let fine = sound _ _ _ _ _ c.requires.old_value c.requires.log_value.0 c.requires.log_value.1 in
    let high = rw c.split_at.ensures.back at c.recut-passed.ensures.movable in
    rw rest_from (
      few_left _ c.args.log.now fine c.requires.log_value.1 c.recut-passed.ensures c.split_at.ensures.back_len,
      rw c.split_at.ensures.back (back_movable fine c.front_count-kept.result c.recut-passed.result high),
    )

pub overflow_add-made : goal.overflow_add-made
overflow_add-made c =
    let fine = sound _ _ _ _ _ c.requires.old_value c.requires.log_value.0 c.requires.log_value.1 in
    rw rest_from (omega (arith, few_left _ c.args.log.now fine c.requires.log_value.1 c.recut-passed.ensures c.split_at.ensures.back_len))

pub returns-then-made-left : goal.returns-then-made-left
returns-then-made-left c =
    let front = c.split_at.ensures.front in
    let back = c.split_at.ensures.back in
    let done =
    parts_done _ _ _ _ c.front_count-kept.ensures (rw front at c.put_moved.ensures) (rw front at c.last_of.ensures)
    (rw (back, c.new.ensures) at c.recut-passed.ensures) (rw (rest_from, back) at c.put_moved-2.ensures) in
    let full = parts_full done (rw (rest_from, back) at c.if-made-left.true) in
    record { answer = full.0; list = full.1 }

pub returns : goal.returns
returns c =
    let front = c.split_at.ensures.front in
    let back = c.split_at.ensures.back in
    let done =
    parts_done _ _ _ _ c.front_count-kept.ensures (rw front at c.put_moved.ensures) (rw front at c.last_of.ensures)
    (rw (back, c.new.ensures) at c.recut-passed.ensures) (rw (rest_from, back) at c.put_moved-2.ensures) in
    let fit = parts_fit done (rw (rest_from, back) at c.if-made-left.false) in
    rw (rest_from, back) (record { answer = fit.0; list = fit.1 })
