-- Demand 2 for the hall: segments recorded in any order, into one board or each into a bay of its own, and then merged.
use Rattle.std.specs.Prelude.{Ok}
use Prim.Native.Nat.{ℕ, ◌<◌}
use mathlib.Core.Path.{◌≡◌, sym, ◌∙◌}
use mathlib.Core.Bool.{true}
use mathlib.Core.List.{List, [], ◌∷◌, ◌++◌, Memᴰ, Permᴰ}
use native.Mathlib.Omega.{arith}
use lib.ListN.{length, drop}
use borrow.Author.Tests.{ltb-false, not-false}
use Rattle.laws.specs.Over.{over}
use Rattle.terms.specs.declared.Settings.{Settings}
use Rattle.terms.specs.Settings.{in_range}
use Rattle.terms.proofs.Ranges.{ranges}
use Rattle.cutting.specs.Marks.{cut_list}
use Rattle.terms.specs.Rows.{Row, verdict}
use Rattle.terms.proofs.Verdicts.{clear, both_clear}
use Rattle.board_bays.specs.Segments.{segments, board_fits, bay_fits, segment_fits}
use Rattle.board_bays.specs.Bays.{entries, bay_of, Holds}
use Rattle.board_bays.specs.Judging.{call_rows, bays_rows}
use Rattle.board.specs.Merging.{merge_rows, merge_answer, merge_leaves}
use Rattle.board_walk.specs.Walk.{board_walk}
use Rattle.board_record.specs.Records.{segment_of}
use Rattle.board.specs.Recording.{record_fits, too_long, recorded, record_rows, record_answer, record_leaves, segment_rows, segment_answer, segment_leaves, record_all}
use Rattle.board_bays.proofs.Verdicts.{passed}
use Rattle.board_bays.proofs.Ranges.{board_shape}
use Rattle.board_merged.proofs.Merged as merging
use Rattle.board_merged.proofs.Accepted as accepted
use Rattle.board_merged.proofs.Orders as orders
use Rattle.promises.specs.OneList.{Lists}
use Rattle.promises.specs.Boards.{Recorded}
use Rattle.promises.proofs.Successes.{succeeds, wrote_all}

-- for any segment size, where each bay holds its segment's record, the walk over the bays is the log's list
pub merged : (s : Settings) (log : List ℕ) (size width : ℕ) (board : List ℕ) → in_range s ≡ true → 0 < size
    → ((i : ℕ) → i < segments (length log) size → Holds (bay_of width i board) (segment_of s log size i))
    → board_walk s (length log) size width board ≡ cut_list s log
merged s log size width board ok sized held =
    let in-range = ranges s ok in merging.merged_board s in-range.positive in-range.ordered log size sized width board held

-- such a board is never refused by 8 or 9
pub true_bays_accepted : (s : Settings) (log : List ℕ) (size width : ℕ) (board : List ℕ) → in_range s ≡ true → 0 < size
    → ((i : ℕ) → i < segments (length log) size → Holds (bay_of width i board) (segment_of s log size i))
    → verdict (bays_rows s (length log) size width board (segments (length log) size) 0) ≡ Ok tt
true_bays_accepted s log size width board ok sized held =
    let in-range = ranges s ok in accepted.true_bays_accepted s in-range.positive in-range.ordered log size sized width board held

-- segment calls in any order of a permutation give the same board
pub any_order : (s : Settings) (log : List ℕ) (size width : ℕ) {is js : List ℕ} → Permᴰ is js → (board : List ℕ)
    → record_all s log size width is board ≡ record_all s log size width js board
any_order s log size width = orders.any_order s log size width

-- rows 1, 2, 7 and 6 that all pass: the record fits
fitted : (rows : List Row) (s : Settings) (log : List ℕ) (size i width : ℕ) → verdict (rows ++ (too_long (segment_of s log size i) width ∷ [])) ≡ Ok tt
    → (verdict rows ≡ Ok tt) × (record_fits (segment_of s log size i) width ≡ true)
fitted rows s log size i width v = let all = both_clear rows _ v in (all.0, not-false _ (clear _ _ _ all.1).0)

module _ (s : Settings) (log : List ℕ) (size : ℕ) where
  -- a segment call that wrote answers 2 plus its offsets, and its bay begins with the record, the entries past it as they were
  pub segment_counted : (width i : ℕ) (board : List ℕ) {m : ℕ} → segment_answer s log size width i (length board) ≡ Ok m
      → Recorded (segment_of s log size i) (bay_of width i board) (bay_of width i (segment_leaves s log size width i board)) m
  unfolding segment_answer segment_rows recorded
  segment_counted width i board e =
      let v = succeeds (verdict (segment_rows s log size width i (length board))) _ e in
      let fine = fitted (call_rows s (length log) (segment_fits (length log) size width i (length board))) s log size i width v.0 in
      let own = orders.own_written s log size width i board fine.0 in
      record { counted = sym v.1; written = own.0 ∙ rw (own.1, fine.1) }

  -- the same for a bay lent alone
  pub record_counted : (i : ℕ) (bay : List ℕ) {m : ℕ} → record_answer s log size (length bay) i ≡ Ok m
      → Recorded (segment_of s log size i) bay (record_leaves s log size i bay) m
  unfolding record_answer record_leaves record_rows recorded
  record_counted i bay e =
      let v = succeeds (verdict (record_rows s log size (length bay) i)) _ e in
      let fine = fitted (call_rows s (length log) (bay_fits (length log) size (length bay) i)) s log size i (length bay) v.0 in
      record { counted = sym v.1; written = rw (v.0, fine.1) }

  -- so that such a bay holds its segment's record
  pub record_holds : (i : ℕ) (bay : List ℕ) {m : ℕ} → record_answer s log size (length bay) i ≡ Ok m → Holds (record_leaves s log size i bay) (segment_of s log size i)
  unfolding over
  record_holds i bay e = record { rest = drop (length (entries (segment_of s log size i))) bay; begins = (record_counted i bay e).written }

  -- merging that wrote has written the walk, where the walk is the log's list
  walk_written : (width : ℕ) (board list : List ℕ) {k : ℕ} → (in_range s ≡ true → 0 < size → board_walk s (length log) size width board ≡ cut_list s log)
      → merge_answer s (length log) size width board (length list) ≡ Ok k
      → Lists list (merge_leaves s (length log) size width board list) (cut_list s log) k
  unfolding merge_answer merge_leaves merge_rows
  walk_written width board list one_list e =
      let walk = board_walk s (length log) size width board in
      let fits = board_fits (length log) size width (length board) in
      let v = (succeeds (verdict (merge_rows s (length log) size width board (length list))) (length walk) e).0 in
      let shape = both_clear (call_rows s (length log) fits) _ v in
      let rows = passed s (length log) fits shape.0 in
      let bays = both_clear (bays_rows s (length log) size width board (segments (length log) size) 0) _ (clear _ _ _ shape.1).1 in
      let sized = board_shape (length log) size width (length board) rows.2 in
      rw (← one_list rows.0 (omega (arith, sized.large)))
      (wrote_all (verdict (merge_rows s (length log) size width board (length list))) walk list e (λ u. ltb-false _ _ (clear _ _ _ bays.1).0))

  -- a call that wrote was refused by no row, so that its record fits
  wrote_bay : (width i entries : ℕ) (calls : List ℕ) → Memᴰ i calls × ((m : ℕ) × (segment_answer s log size width i entries ≡ Ok m))
      → (verdict (call_rows s (length log) (segment_fits (length log) size width i entries)) ≡ Ok tt) × (record_fits (segment_of s log size i) width ≡ true) × Memᴰ i calls
  unfolding segment_answer segment_rows
  wrote_bay width i entries calls called =
      let v = (succeeds (verdict (segment_rows s log size width i entries)) _ called.1.1).0 in
      let fine = fitted (call_rows s (length log) (segment_fits (length log) size width i entries)) s log size i width v in
      (fine.0, fine.1, called.0)

  -- each segment is among the calls and none is refused: where merging is not refused either, the list is the log's, whatever the order
  pub segments_merged : (width : ℕ) (calls board list : List ℕ) (k : ℕ)
      → ((i : ℕ) → i < segments (length log) size → Memᴰ i calls × ((m : ℕ) × (segment_answer s log size width i (length board) ≡ Ok m)))
      → merge_answer s (length log) size width (record_all s log size width calls board) (length list) ≡ Ok k
      → Lists list (merge_leaves s (length log) size width (record_all s log size width calls board) list) (cut_list s log) k
  segments_merged width calls board list k all =
      walk_written width (record_all s log size width calls board) list
      (λ ok sized. let in-range = ranges s ok in
      merging.recorded-merged s in-range.positive in-range.ordered log size sized width calls board (λ i h. wrote_bay width i (length board) calls (all i h)))

  -- each bay was lent alone, to whatever thread and in whatever order, and its call wrote: where merging is not refused either, the list is the log's
  pub bays_merged : (width : ℕ) (board list : List ℕ) (lent : ℕ → List ℕ) (k : ℕ)
      → ((i : ℕ) → i < segments (length log) size
      → (bay_of width i board ≡ record_leaves s log size i (lent i)) × ((m : ℕ) × (record_answer s log size (length (lent i)) i ≡ Ok m)))
      → merge_answer s (length log) size width board (length list) ≡ Ok k
      → Lists list (merge_leaves s (length log) size width board list) (cut_list s log) k
  bays_merged width board list lent k all =
      walk_written width board list
      (λ ok sized. merged s log size width board ok sized (λ i h. rw (all i h).0 (record_holds i (lent i) (all i h).1.1)))
