-- The calls on a board, row by row: the rows stand in document 01's order, the number is that of the first that holds, the count
-- beside it is 0 where one does, and lent memory stays as it was but for one number: 17 keeps the cuts written, 6 what it wrote into the bay.
use Rattle.std.specs.Prelude.{Err}
use Prim.Native.Nat.{ℕ, ◌+◌, ◌-◌}
use mathlib.Core.Path.{◌≡◌, sym, ◌∙◌}
use mathlib.Core.Bool.{false}
use mathlib.Core.List.{List, ◌∷◌}
use lib.Dec.{lit<}
use lib.ListN.{length, take}
use borrow.Author.Tests.{not-true}
use Rattle.board_bays.specs.Segments.{bay_fits, segment_fits}
use Rattle.board_bays.specs.Judging.{call_rows}
use Rattle.board_bays.proofs.Verdicts.{plain_call}
use Rattle.terms.specs.declared.Settings.{Settings}
use Rattle.terms.specs.declared.Refusal.TheVariants.{RecordTooLong, ListFull}
use Rattle.terms.specs.Answers.{answer_number, answer_count}
use Rattle.terms.specs.Rows.{verdict, ruled, first_row, Leaves}
use Rattle.terms.proofs.Verdicts.{through, last_holds, refused_leaves}
use Rattle.lists.specs.Written.{written_list}
use Rattle.board_walk.specs.Walk.{board_walk}
use Rattle.board_bays.specs.Bays.{bay_of}
use Rattle.board_record.specs.Records.{segment_of}
use Rattle.board.specs.Recording.{record_fits, recorded, with_bay, record_rows, record_answer, record_leaves, segment_rows, segment_answer, segment_leaves}
use Rattle.board.specs.Merging.{merge_rows, merge_answer, merge_leaves}
use Rattle.board_merged.proofs.Orders as orders
use Rattle.promises.specs.Boards.{OthersStay}

-- merging: 1, 2, 7, 5, then bays from the lowest, 8 before 9; and the guard
module _ (s : Settings) (n size width : ℕ) (board : List ℕ) where
  pub merge_rows_lem : (room : ℕ) → answer_number (merge_answer s n size width board room) ≡ first_row (merge_rows s n size width board room)
  unfolding answer_number merge_answer
  merge_rows_lem room = through answer_number (verdict (merge_rows s n size width board room)) Err _

  pub merge_count : (room : ℕ)
      → answer_count (merge_answer s n size width board room) ≡ ruled (verdict (merge_rows s n size width board room)) (λ _. 0) (length (board_walk s n size width board))
  unfolding answer_count merge_answer
  merge_count room = through answer_count (verdict (merge_rows s n size width board room)) Err _

  pub merge_leaves_lem : (list : List ℕ)
      → Leaves (answer_number (merge_answer s n size width board (length list))) 17 list (written_list (board_walk s n size width board) list) (merge_leaves s n size width board list)
  unfolding merge_leaves
  merge_leaves_lem list = rw (merge_rows_lem (length list)) (refused_leaves (verdict (merge_rows s n size width board (length list))) ListFull)

-- a segment into a bay lent alone: 1, 2, 7, 6
module _ (s : Settings) (log : List ℕ) (size i : ℕ) where
  pub record_rows_lem : (width : ℕ) → answer_number (record_answer s log size width i) ≡ first_row (record_rows s log size width i)
  unfolding answer_number record_answer
  record_rows_lem width = through answer_number (verdict (record_rows s log size width i)) Err _

  pub record_count : (width : ℕ)
      → answer_count (record_answer s log size width i) ≡ ruled (verdict (record_rows s log size width i)) (λ _. 0) (2 + length (segment_of s log size i).offsets)
  unfolding answer_count record_answer
  record_count width = through answer_count (verdict (record_rows s log size width i)) Err _

  pub record_leaves_lem : (bay : List ℕ)
      → Leaves (answer_number (record_answer s log size (length bay) i)) 6 bay (recorded (segment_of s log size i) bay) (record_leaves s log size i bay)
  unfolding record_leaves
  record_leaves_lem bay = rw (record_rows_lem (length bay)) (refused_leaves (verdict (record_rows s log size (length bay) i)) RecordTooLong)

  -- 6 sets entries 0 and 1 of the bay to 0 and fills the others with the record's first offsets
  pub record_long : (bay : List ℕ) → answer_number (record_answer s log size (length bay) i) ≡ 6
      → record_leaves s log size i bay ≡ 0 ∷ 0 ∷ take (length bay - 2) (segment_of s log size i).offsets
  unfolding record_rows recorded
  record_long bay six =
      let fits = bay_fits (length log) size (length bay) i in
      let long = last_holds RecordTooLong (call_rows s (length log) fits) _ (plain_call s (length log) fits).0 (lit< tt) (sym (record_rows_lem (length bay)) ∙ six) in
      let short : record_fits (segment_of s log size i) (length bay) ≡ false = not-true _ long.1 in
      (record_leaves_lem bay).excepted six ∙ rw short

-- a segment into its bay of a whole board: the same
module _ (s : Settings) (log : List ℕ) (size width i : ℕ) where
  pub segment_rows_lem : (entries : ℕ) → answer_number (segment_answer s log size width i entries) ≡ first_row (segment_rows s log size width i entries)
  unfolding answer_number segment_answer
  segment_rows_lem entries = through answer_number (verdict (segment_rows s log size width i entries)) Err _

  pub segment_count : (entries : ℕ)
      → answer_count (segment_answer s log size width i entries) ≡ ruled (verdict (segment_rows s log size width i entries)) (λ _. 0) (2 + length (segment_of s log size i).offsets)
  unfolding answer_count segment_answer
  segment_count entries = through answer_count (verdict (segment_rows s log size width i entries)) Err _

  pub segment_leaves_lem : (board : List ℕ)
      → Leaves (answer_number (segment_answer s log size width i (length board))) 6 board (with_bay width i (recorded (segment_of s log size i) (bay_of width i board)) board)
      (segment_leaves s log size width i board)
      × OthersStay width i board (segment_leaves s log size width i board)
  segment_leaves_lem board = (
    unfold segment_leaves in rw (segment_rows_lem (length board)) (refused_leaves (verdict (segment_rows s log size width i (length board))) RecordTooLong),
    record { others_stay = λ j other. orders.other_kept s log size width i j board other },
  )

  pub segment_long : (board : List ℕ) → answer_number (segment_answer s log size width i (length board)) ≡ 6
      → bay_of width i (segment_leaves s log size width i board) ≡ 0 ∷ 0 ∷ take (width - 2) (segment_of s log size i).offsets
  unfolding segment_rows recorded
  segment_long board six =
      let fits = segment_fits (length log) size width i (length board) in
      let long = last_holds RecordTooLong (call_rows s (length log) fits) _ (plain_call s (length log) fits).0 (lit< tt) (sym (segment_rows_lem (length board)) ∙ six) in
      let own = orders.own_written s log size width i board long.0 in
      let short : record_fits (segment_of s log size i) width ≡ false = not-true _ long.1 in
      own.0 ∙ rw (own.1, short)
