-- The rows of each call are those of document 01, in its order.
use Prim.Native.Nat.{ℕ, zero, suc}
use mathlib.Core.Path.{◌≡◌, refl}
use mathlib.Core.List.{List, ◌++◌}
use Rattle.terms.specs.declared.Settings.{Settings}
use Rattle.terms.specs.declared.Label.{Label}
use Rattle.terms.specs.Rows.{Row}
use Rattle.cutting.specs.Calls.{cut_log_rows}
use Rattle.pass_carry.specs.declared.Carry.{Carry}
use Rattle.pass_carry.specs.Outcomes.{carry_rows}
use Rattle.pass.specs.Calls.{fresh_rows, block_rows, close_rows}
use Rattle.board_bays.specs.Segments.{segments}
use Rattle.board_bays.specs.Judging.{call_rows, bay_rows, bays_rows}
use Rattle.board.specs.Recording.{record_fits, record_rows, segment_rows}
use Rattle.board.specs.Merging.{merge_rows}
use Rattle.amending.specs.declared.edits.Edit.{Edit}
use Rattle.amending.specs.Answers.{amend_rows}
use Rattle.sheet_format.specs.Clean.{has_trailer, has_list, clean_rows}
use Rattle.sheet.specs.Write.{write_sheet_rows}
use Rattle.sheet.specs.Read.{read_sheet_rows}
use Rattle.promises.specs.Tables.{numbered, cut_log_table, fresh_table, block_table, close_table, record_table, segment_table, eight_nine, merge_table}
use Rattle.promises.specs.Tables.{amend_table, write_sheet_table, read_sheet_table}

pub whole_log_table : (settings : Settings) (log : List ℕ) (room : ℕ) → numbered (cut_log_rows settings log room) ≡ cut_log_table settings log room
unfolding numbered cut_log_rows cut_log_table
whole_log_table settings log room = refl

pub fresh_table_lem : (settings : Settings) → numbered (fresh_rows settings) ≡ fresh_table settings
unfolding numbered fresh_rows fresh_table
fresh_table_lem settings = refl

pub block_table_lem : (c : Carry) (block : List ℕ) (room : ℕ) → numbered (block_rows c block room) ≡ block_table c block room
unfolding numbered block_rows carry_rows block_table
block_table_lem c block room = refl

pub close_table_lem : (c : Carry) (room : ℕ) → numbered (close_rows c room) ≡ close_table c room
unfolding numbered close_rows carry_rows close_table
close_table_lem c room = refl

pub record_table_lem : (settings : Settings) (log : List ℕ) (size width i : ℕ) → numbered (record_rows settings log size width i) ≡ record_table settings log size width i
unfolding numbered record_rows record_fits call_rows record_table
record_table_lem settings log size width i = refl

pub segment_table_lem : (settings : Settings) (log : List ℕ) (size width i numbers : ℕ)
    → numbered (segment_rows settings log size width i numbers) ≡ segment_table settings log size width i numbers
unfolding numbered segment_rows record_fits call_rows segment_table
segment_table_lem settings log size width i numbers = refl

bays_table : (settings : Settings) (n size width : ℕ) (board : List ℕ) (later : List Row) (k i : ℕ)
    → numbered (bays_rows settings n size width board k i ++ later) ≡ eight_nine settings n size width board (numbered later) k i
unfolding bays_rows bay_rows numbered eight_nine
bays_table settings n size width board later zero i = refl
bays_table settings n size width board later (suc k) i = rw (bays_table settings n size width board later k (suc i))

pub merge_table_lem : (settings : Settings) (n size width : ℕ) (board : List ℕ) (room : ℕ)
    → numbered (merge_rows settings n size width board room) ≡ merge_table settings n size width board room
unfolding numbered merge_rows call_rows merge_table
merge_table_lem settings n size width board room = rw (bays_table settings n size width board _ (segments n size) 0)

pub amend_table_lem : (settings : Settings) (old : List ℕ) (edit : Edit) (log : List ℕ) (room : ℕ)
    → numbered (amend_rows settings old edit log room) ≡ amend_table settings old edit log room
unfolding numbered amend_rows amend_table
amend_table_lem settings old edit log room = refl

pub write_sheet_table_lem : (settings : Settings) (list : List ℕ) (room : ℕ) → numbered (write_sheet_rows settings list room) ≡ write_sheet_table settings list room
unfolding numbered write_sheet_rows write_sheet_table
write_sheet_table_lem settings list room = refl

pub read_sheet_table_lem : (bytes : List ℕ) (asked : Label) (room : ℕ) → numbered (read_sheet_rows bytes asked room) ≡ read_sheet_table bytes asked room
unfolding numbered read_sheet_rows clean_rows has_trailer has_list read_sheet_table
read_sheet_table_lem bytes asked room = refl
