-- `board_record::cuts::next_hop` meets its contract, each way by its law.
use Rattle.std.proofs.Common.{◌≡◌, ℕ, ◌+◌, ◌-◌, arith}
use Rattle.terms.proofs.Ranges.{ranges}
use Rattle.board_record.proofs.Stretching.{too_near, marked_hop, forced_end, open_end}
use Rattle.board_record.proofs.cuts.next_hop.Goals as goal

pub overflow_add-at : goal.overflow_add-at
overflow_add-at c = omega (arith, c.requires, ranges _ c.args.cutter.now.ranged)

pub returns-then-at-bytes-clause-leaves : goal.returns-then-at-bytes-clause-leaves
returns-then-at-bytes-clause-leaves c = too_near _ _ _ (ranges _ c.args.cutter.now.ranged) c.if-at-bytes.true

pub overflow_add-cut : goal.overflow_add-cut
overflow_add-cut c = omega (arith, c.requires, ranges _ c.args.cutter.now.ranged)

pub overflow_sub-at : goal.overflow_sub-at
overflow_sub-at c = omega (arith, ranges _ c.args.cutter.now.ranged)

pub seek-requires-clause-bounds : goal.seek-requires-clause-bounds
seek-requires-clause-bounds c =
    let allowed = ranges _ c.args.cutter.now.ranged in (
      omega (arith, allowed.window-fits),
      omega (arith, allowed.ordered, c.if-at-bytes.false, c.min-last.ensures),
      omega (arith, c.min-last.ensures),
    )

pub seek-requires-clause-signature : goal.seek-requires-clause-signature
seek-requires-clause-signature c =
    let at : ℕ = c.args.cut + c.args.cutter.now.marks.settings.minimum in
    let wide : at - (at - 48) ≡ 48 = omega (arith, ranges _ c.args.cutter.now.ranged) in
    rw wide at c.of_window-signature.ensures

pub returns-in-Ok-clause-stays : goal.returns-in-Ok-clause-stays
returns-in-Ok-clause-stays c = marked_hop _ _ _ (ranges _ c.args.cutter.now.ranged) c.min-last.ensures c.in-Ok.ensures.found

pub returns-then-last-cut-clause-stays : goal.returns-then-last-cut-clause-stays
returns-then-last-cut-clause-stays c =
    forced_end _ _ _ (ranges _ c.args.cutter.now.ranged) c.min-last.ensures c.in_default.ensures.ended c.requires.0 c.if-last-cut.true

pub returns-clause-leaves : goal.returns-clause-leaves
returns-clause-leaves c =
    open_end _ _ _ (ranges _ c.args.cutter.now.ranged) c.min-last.ensures c.in_default.ensures.ended c.requires.0 c.if-last-cut.false
