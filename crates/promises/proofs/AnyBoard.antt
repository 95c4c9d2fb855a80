-- Any board that is accepted, true or not; and what a segment's record holds.
use Rattle.std.specs.Prelude.{Ok}
use Prim.Native.Nat.{ℕ, ◌≤◌, ◌<◌}
use mathlib.Core.Path.{◌≡◌, sym, ◌∙◌}
use mathlib.Core.Bool.{true}
use mathlib.Core.List.{List, ◌∷◌, ◌++◌}
use native.Mathlib.Omega.{arith}
use lib.Dec.{lit<, leb, ltb}
use lib.ListN.{length}
use borrow.Author.Tests.{leb-true, ltb-true, ltb-false}
use Rattle.laws.proofs.Cases.{both_true}
use Rattle.terms.specs.declared.Settings.{Settings}
use Rattle.terms.specs.declared.Refusal.TheVariants.{RoomTooShort, ListFull}
use Rattle.terms.specs.Settings.{in_range}
use Rattle.terms.specs.Answers.{answer_number, longest, room_for}
use Rattle.terms.specs.Rows.{row, verdict, lacks}
use Rattle.terms.proofs.Ranges.{ranges}
use Rattle.terms.proofs.Verdicts.{clear, both_clear, last_holds}
use Rattle.rule.specs.Rule.{cuts}
use Rattle.cutting.specs.Marks.{mark, cut_list}
use Rattle.board_bays.specs.Segments.{segments, board_fits}
use Rattle.board_bays.specs.Bays.{is_listed}
use Rattle.board_bays.specs.Judging.{call_rows, bays_rows}
use Rattle.board_bays.proofs.Verdicts.{passed, plain_bays}
use Rattle.board_bays.proofs.Ranges.{spans, board_shape}
use Rattle.board_walk.specs.Walk.{board_walk}
use Rattle.board_merged.specs.Listed.{listed_on}
use Rattle.board_merged.specs.MarkerPieces.{MarkerPiece}
use Rattle.board_record.specs.Records.{segment_of}
use Rattle.board_record.specs.Told.{RecordTold}
use Rattle.board_record.proofs.Told as told
use Rattle.board_merged.proofs.Marker as marker
use Rattle.board_merged.proofs.AnyBoard as any
use Rattle.board.specs.Merging.{merge_rows, merge_answer}
use Rattle.promises.specs.Boards.{EndsAt}
use Rattle.promises.proofs.BoardRows.{merge_rows_lem}

module _ (s : Settings) (n size width : ℕ) (board : List ℕ) (ok : in_range s ≡ true) (sized : 0 < size)
    (accepted : verdict (bays_rows s n size width board (segments n size) 0) ≡ Ok tt) where
  -- the walk's list is the one-pass rule's, with the offsets that the board lists for marks
  pub walk_by_the_rule : board_walk s n size width board ≡ cuts (listed_on size width board) s.minimum s.maximum n
  walk_by_the_rule = let r = ranges s ok in any.walk_by_the_rule s r.positive r.ordered n size width board sized accepted

  -- it is well formed and ends at n
  pub merged_well_formed : n ≤ longest → EndsAt s n (board_walk s n size width board)
  merged_well_formed short =
      let r = ranges s ok in
      let both = any.merged_well_formed s r.positive r.ordered n size width board sized accepted short in
      record { well-formed = both.0; ends = both.1 }

  -- and the room that merging asks for is enough for it
  pub merged_fits : length (board_walk s n size width board) ≤ room_for s.minimum n
  merged_fits = let r = ranges s ok in any.merged_fits s r.positive r.ordered n size width board sized accepted

-- so merging never answers 17
pub merge_never_full : (s : Settings) (n size width : ℕ) (board : List ℕ) (room : ℕ) → answer_number (merge_answer s n size width board room) ≡ 17 → ⊥
unfolding merge_rows call_rows lacks
merge_never_full s n size width board room full =
    let fits = board_fits n size width (length board) in
    let walk = board_walk s n size width board in
    let bays = bays_rows s n size width board (segments n size) 0 in
    let short = row RoomTooShort (ltb room (room_for s.minimum n)) in
    let last = last_holds ListFull (call_rows s n fits ++ (short ∷ bays)) (ltb room (length walk)) (plain_bays s n size width board (segments n size) 0) (lit< tt)
    (sym (merge_rows_lem s n size width board room) ∙ full) in
    let judged = both_clear (call_rows s n fits) (short ∷ bays) last.0 in
    let rows = passed s n fits judged.0 in
    let after = clear RoomTooShort (ltb room (room_for s.minimum n)) bays judged.1 in
    let sized : 0 < size = omega (arith, (board_shape n size width (length board) rows.2).large) in
    let fitting = merged_fits s n size width board rows.0 sized after.1 in
    omega (arith, fitting, ltb-true room (length walk) last.1, ltb-false room (room_for s.minimum n) after.0)

-- the marker lemma: neighbour marks from minimum to maximum - minimum apart: the later one is a cut, wherever the cuts before it lie
pub marker_lemma : (s : Settings) (log : List ℕ) {a b : ℕ} → in_range s ≡ true → MarkerPiece (mark s log) s.minimum s.maximum a b → is_listed b (cut_list s log) ≡ true
unfolding mark
marker_lemma s log {b = b} ok piece =
    let r = ranges s ok in
    let inside : b ≤ length log = leb-true b (length log) (both_true (both_true {a = leb 48 b} piece.ends).1).0 in
    marker.marker_cut (mark s log) s.minimum s.maximum r.positive r.ordered (length log) piece inside

module _ (s : Settings) (log : List ℕ) (size i : ℕ) (ok : in_range s ≡ true) (sized : 0 < size) (there : i < segments (length log) size) where
  -- the record of a segment is as document 01 tells it: its marks, the marker, the one-pass cuts without n where only the log's end makes it one
  pub record_told : RecordTold (mark s log) s.minimum s.maximum (length log) size i (segment_of s log size i)
  record_told = let r = ranges s ok in told.record_told (mark s log) s.minimum s.maximum (length log) r.positive r.ordered size sized i there

  -- its marker is a cut of the log, wherever the cuts before it lie
  pub marker_is_cut : 0 < (segment_of s log size i).marker → is_listed (segment_of s log size i).marker (cut_list s log) ≡ true
  marker_is_cut =
      let r = ranges s ok in
      marker.record_marker (mark s log) s.minimum s.maximum r.positive r.ordered (length log) size i
      (spans (length log) size sized i there).1 (segment_of s log size i) record_told
