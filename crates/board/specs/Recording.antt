-- Recording a segment, into a bay lent alone or into its bay of a whole board: document 01, "Segments and the board" and "Numbers answered".
use Rattle.std.specs.Prelude.{ℕ, ◌+◌, ◌-◌, ◌*◌, Bool, not, List, [], ◌∷◌, ◌++◌, leb, length, take, drop, Ok, Err}
use Rattle.laws.specs.Over.{over}
use Rattle.terms.specs.declared.Refusal.TheVariants.{RecordTooLong}
use Rattle.terms.specs.Answers.{Answer}
use Rattle.terms.specs.declared.Settings.{Settings}
use Rattle.terms.specs.Answers.{unless}
use Rattle.terms.specs.Rows.{Row, row, verdict, ruled, leaves}
use Rattle.board_bays.specs.Segments.{bay_fits, segment_fits}
use Rattle.board_bays.specs.Bays.{Record, entries, bay_of}
use Rattle.board_bays.specs.Judging.{call_rows}
use Rattle.board_record.specs.Records.{segment_of}

-- the record is not longer than its bay
unfoldable pub record_fits : (r : Record) (width : ℕ) → Bool
record_fits r width = leb (length r.offsets) (width - 2)

abbrev pub too_long : (r : Record) (width : ℕ) → Row
too_long r width = row RecordTooLong (not (record_fits r width))

-- the bay at exit: the record over its first entries; 6 sets entries 0 and 1 to 0 and fills the others with the record's first R - 2 offsets
unfoldable pub recorded : (r : Record) (bay : List ℕ) → List ℕ
recorded r bay = unless (record_fits r (length bay)) (0 ∷ 0 ∷ take (length bay - 2) r.offsets) (over (entries r) bay)

-- a board with bay i replaced
unfoldable pub with_bay : (width i : ℕ) (bay board : List ℕ) → List ℕ
with_bay width i bay board = take (i * width) board ++ (bay ++ drop (i * width + width) board)

-- into a bay lent alone: 1, 2, 7, 6
unfoldable pub record_rows : (settings : Settings) (log : List ℕ) (size width i : ℕ) → List Row
record_rows settings log size width i =
    call_rows settings (length log) (bay_fits (length log) size width i) ++ (too_long (segment_of settings log size i) width ∷ [])

-- 2 plus the offsets
unfoldable pub record_answer : (settings : Settings) (log : List ℕ) (size width i : ℕ) → Answer
record_answer settings log size width i =
    ruled (verdict (record_rows settings log size width i)) Err (Ok (2 + length (segment_of settings log size i).offsets))

unfoldable pub record_leaves : (settings : Settings) (log : List ℕ) (size i : ℕ) (bay : List ℕ) → List ℕ
record_leaves settings log size i bay =
    leaves (verdict (record_rows settings log size (length bay) i)) RecordTooLong bay (recorded (segment_of settings log size i) bay)

-- into bay i of a whole board of so many numbers: the same rows, and every other bay stays as it was
unfoldable pub segment_rows : (settings : Settings) (log : List ℕ) (size width i numbers : ℕ) → List Row
segment_rows settings log size width i numbers =
    call_rows settings (length log) (segment_fits (length log) size width i numbers) ++ (too_long (segment_of settings log size i) width ∷ [])

unfoldable pub segment_answer : (settings : Settings) (log : List ℕ) (size width i numbers : ℕ) → Answer
segment_answer settings log size width i numbers =
    ruled (verdict (segment_rows settings log size width i numbers)) Err (Ok (2 + length (segment_of settings log size i).offsets))

unfoldable pub segment_leaves : (settings : Settings) (log : List ℕ) (size width i : ℕ) (board : List ℕ) → List ℕ
segment_leaves settings log size width i board =
    leaves (verdict (segment_rows settings log size width i (length board))) RecordTooLong board
    (with_bay width i (recorded (segment_of settings log size i) (bay_of width i board)) board)

-- segment calls, one after the other, over one board
unfoldable pub record_all : (settings : Settings) (log : List ℕ) (size width : ℕ) (calls board : List ℕ) → List ℕ
record_all settings log size width [] board = board
record_all settings log size width (i ∷ calls) board = record_all settings log size width calls (segment_leaves settings log size width i board)
