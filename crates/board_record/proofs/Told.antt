-- The record as document 01 tells it, over any marks; and its marker is a cut.
use Prim.Native.Nat.{ℕ, zero, suc, ◌-◌, ◌≤◌, ◌<◌}
use mathlib.Core.Path.{◌≡◌}
use mathlib.Core.Bool.{Bool, false}
use mathlib.Core.List.{List}
use mathlib.Core.Logic.{◌⊎◌, inl, inr}
use native.Mathlib.Omega.{arith}
use borrow.Author.Tests.{leb-false, le-leb}
use Rattle.laws.proofs.Cases.{by_lt, by_test}
use Rattle.rule.proofs.Recorded.{up_to_told}
use Rattle.board_bays.specs.Segments.{segments, segment_start, segment_end}
use Rattle.board_bays.proofs.Ranges.{spans}
use Rattle.board_record.specs.Records.{is_marker, prepend, record_after, slow_record, segment_record}
use Rattle.board_record.specs.Told.{AfterMark, no_more, at_marker, no_marker, RecordTold, first_segment, no_marks, slow_mode}
use Rattle.board_record.proofs.Marking.{Marks, none_left, then_mark, marks_in_lem}
use Rattle.board_record.proofs.After as after

-- what the marker test says where it fails
other_piece : (lo hi a b : ℕ) → is_marker lo hi a b ≡ false → (b - a < lo) ⊎ (hi - lo < b - a)
unfolding is_marker
other_piece lo hi a b t =
    by_lt (b - a) lo inl
    (λ far. inr (leb-false (b - a) (hi - lo) (rw (le-leb lo (b - a) far) at t)))

module _ (mark : ℕ → Bool) (lo hi n : ℕ) (positive : 0 < lo) (order : lo ≤ hi) where
  after_told : (e : ℕ) → e ≤ n → {a : ℕ} {marks : List ℕ} → Marks mark e a marks
      → AfterMark mark lo hi n e a (record_after mark lo hi e a marks).marker (record_after mark lo hi e a marks).offsets
  unfolding record_after prepend
  after_told e inside (none_left u) = no_more u
  after_told e inside {a} (then_mark b {l = marks} above within m u r) =
      by_test (is_marker lo hi a b)
      (λ t. let piece = after.piece lo hi a b t in
      rw (after.at_marker mark lo hi e a b marks t) (at_marker above within m u piece.0 piece.1 (up_to_told mark lo hi n e positive order inside b)))
      (λ t. rw (after.no_marker mark lo hi e a b marks t) (no_marker above within m u (other_piece lo hi a b t) (after_told e inside r)))

  pub record_told : (size : ℕ) → 0 < size → (i : ℕ) → i < segments n size → RecordTold mark lo hi n size i (segment_record mark lo hi n size i)
  unfolding segment_record
  record_told size sized zero h =
      let span = spans n size sized 0 h in first_segment (up_to_told mark lo hi n (segment_end n size 0) positive order span.1 0)
  record_told size sized (suc i) h =
      let e : ℕ = segment_end n size (suc i) in
      let span = spans n size sized (suc i) h in
      slow (marks_in_lem mark e (segment_start size (suc i)) (omega arith)) span.1
    where
      slow : {marks : List ℕ} → Marks mark (segment_end n size (suc i)) (segment_start size (suc i)) marks → segment_end n size (suc i) ≤ n
          → RecordTold mark lo hi n size (suc i) (slow_record mark lo hi (segment_end n size (suc i)) marks)
      slow (none_left u) inside = unfold slow_record in no_marks u
      slow (then_mark b above within m u r) inside = unfold slow_record prepend in slow_mode above within m u (after_told (segment_end n size (suc i)) inside r)
