-- A board whose bays hold their segments' records, in whatever order they were recorded: the walk over it is the log's list of cuts.
use Rattle.std.specs.Prelude.{Ok}
use Prim.Native.Nat.{ℕ, ◌≤◌, ◌<◌}
use mathlib.Core.Path.{◌≡◌}
use mathlib.Core.Bool.{true}
use mathlib.Core.List.{List, Memᴰ}
use lib.ListN.{length}
use Rattle.terms.specs.declared.Settings.{Settings}
use Rattle.terms.specs.Rows.{verdict}
use Rattle.cutting.specs.Marks.{mark, cut_list}
use Rattle.board_bays.specs.Segments.{segments, segment_fits}
use Rattle.board_bays.specs.Judging.{call_rows}
use Rattle.board_bays.specs.Bays.{bay_of, record_in, Holds}
use Rattle.board_walk.specs.Walk.{board_walk}
use Rattle.board_record.specs.Records.{segment_of}
use Rattle.board.specs.Recording.{record_fits, record_all}
use Rattle.board_merged.proofs.Reading.{merged}
use Rattle.board_merged.proofs.ReadBack.{read_back}
use Rattle.board_merged.proofs.Orders.{then_held}

module _ (s : Settings) (positive : 0 < s.minimum) (order : s.minimum ≤ s.maximum) (log : List ℕ) (size : ℕ) (sized : 0 < size) (width : ℕ) where
  pub merged_board : (board : List ℕ) → ((i : ℕ) → i < segments (length log) size → Holds (bay_of width i board) (segment_of s log size i))
      → board_walk s (length log) size width board ≡ cut_list s log
  unfolding board_walk
  merged_board board held =
      merged (mark s log) s.minimum s.maximum positive order (length log) size sized
      (λ i. record_in (bay_of width i board))
      (λ i h. read_back (bay_of width i board) (segment_of s log size i) (held i h))

  -- calls that are granted, whose records fit, and among which each segment is
  pub recorded-merged : (calls board : List ℕ)
      → ((i : ℕ) → i < segments (length log) size
      → (verdict (call_rows s (length log) (segment_fits (length log) size width i (length board))) ≡ Ok tt) × (record_fits (segment_of s log size i) width ≡ true)
      × Memᴰ i calls)
      → board_walk s (length log) size width (record_all s log size width calls board) ≡ cut_list s log
  recorded-merged calls board all =
      merged_board (record_all s log size width calls board)
      (λ i h. let known = all i h in then_held s log size width i known.1 calls board known.0 known.2)
