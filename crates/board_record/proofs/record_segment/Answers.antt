-- `board_record::record_segment` meets its contract: the stretch it lends has the log's marks.
use Rattle.std.proofs.Common.{◌≡◌, ◌*◌, arith}
use Rattle.terms.proofs.Ranges.{ranges}
use Rattle.board_bays.specs.Segments.{segment_start}
use Rattle.board_record.proofs.Parts.{inside, starts_before, stretch_fine, from_zero, from_stretch, lead}
use Rattle.board_record.proofs.record_segment.Goals as goal

pub slice_bounds-stretch-end : goal.slice_bounds-stretch-end
slice_bounds-stretch-end c =
    inside c.args.rule.settings c.args.log.now _ _ (rw c.requires at c.args.segment.there) (ranges _ c.args.rule.ranged) _ (rw c.requires at c.end-last.ensures)

pub returns-then-segment-eq0 : goal.returns-then-segment-eq0
returns-then-segment-eq0 c =
    from_zero _ c.args.log.now _ _ (rw c.requires at c.args.segment.there) (ranges _ c.args.rule.ranged) _ (rw c.requires at c.end-last.ensures)
    c.if-segment-eq0.true c.after.ensures.count c.after.ensures.cut (rw c.new-cutter.ensures at c.record_cuts-made.ensures)

pub overflow_sub-base : goal.overflow_sub-base
unfolding segment_start
overflow_sub-base c =
    let led =
    lead c.args.rule.settings c.args.log.now _ _ (rw c.requires at c.args.segment.there) (ranges _ c.args.rule.ranged) _ (rw c.requires at c.end-last.ensures)
    c.if-segment-eq0.false in
    omega (arith, led, c.start-start.ensures)

pub slice_bounds-stretch-count-2 : goal.slice_bounds-stretch-count-2
unfolding segment_start
slice_bounds-stretch-count-2 c =
    let below =
    starts_before c.args.rule.settings c.args.log.now _ _ (rw c.requires at c.args.segment.there) (ranges _ c.args.rule.ranged) _
    (rw c.requires at c.end-last.ensures) in
    omega (arith, below, c.start-start.ensures)

pub slice_bounds-stretch-start-2 : goal.slice_bounds-stretch-start-2
unfolding segment_start
slice_bounds-stretch-start-2 c =
    let below =
    starts_before c.args.rule.settings c.args.log.now _ _ (rw c.requires at c.args.segment.there) (ranges _ c.args.rule.ranged) _
    (rw c.requires at c.end-last.ensures) in
    omega (arith, below, c.start-start.ensures)

pub slice_bounds-stretch-end-2 : goal.slice_bounds-stretch-end-2
slice_bounds-stretch-end-2 c =
    inside c.args.rule.settings c.args.log.now _ _ (rw c.requires at c.args.segment.there) (ranges _ c.args.rule.ranged) _ (rw c.requires at c.end-last.ensures)

pub invariant_of-stretch-2 : goal.invariant_of-stretch-2
unfolding segment_start
invariant_of-stretch-2 c =
    let fine =
    stretch_fine c.args.rule.settings c.args.log.now _ _ (rw c.requires at c.args.segment.there) (ranges _ c.args.rule.ranged) _
    (rw c.requires at c.end-last.ensures) c.if-segment-eq0.false in
    record { in_bounds = rw c.start-start.ensures fine.1 }

pub record_marks-requires : goal.record_marks-requires
unfolding segment_start
record_marks-requires c =
    let fine =
    stretch_fine c.args.rule.settings c.args.log.now _ _ (rw c.requires at c.args.segment.there) (ranges _ c.args.rule.ranged) _
    (rw c.requires at c.end-last.ensures) c.if-segment-eq0.false in
    rw c.start-start.ensures fine.0

pub returns : goal.returns
unfolding segment_start
returns c =
    let start : c.start-start.result ≡ c.args.segment.i * c.args.segment.size = c.start-start.ensures in
    from_stretch _ c.args.log.now _ _ (rw c.requires at c.args.segment.there) (ranges _ c.args.rule.ranged) _ (rw c.requires at c.end-last.ensures)
    c.if-segment-eq0.false (rw (start, c.new-cutter.ensures) at c.record_marks.ensures)
