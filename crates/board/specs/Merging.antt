-- What merging answers and writes, for every input: document 01, "Segments and the board" and "Numbers answered".
use Rattle.std.specs.Prelude.{ℕ, List, [], ◌∷◌, ◌++◌, ltb, length, Ok, Err}
use Rattle.terms.specs.declared.Settings.{Settings}
use Rattle.terms.specs.declared.Refusal.TheVariants.{RoomTooShort, ListFull}
use Rattle.terms.specs.Answers.{Answer}
use Rattle.terms.specs.Answers.{room_for}
use Rattle.terms.specs.Rows.{Row, row, verdict, ruled, leaves}
use Rattle.lists.specs.Written.{guard, written_list}
use Rattle.board_bays.specs.Judging.{call_rows, bays_rows}
use Rattle.board_walk.specs.Walk.{board_walk}
use Rattle.board_bays.specs.Segments.{segments, board_fits}

-- 1, 2, 7, 5, then bays from the lowest, 8 before 9, and the guard
unfoldable pub merge_rows : (settings : Settings) (n size width : ℕ) (board : List ℕ) (room : ℕ) → List Row
merge_rows settings n size width board room =
    call_rows settings n (board_fits n size width (length board))
    ++ (row RoomTooShort (ltb room (room_for settings.minimum n))
    ∷ (bays_rows settings n size width board (segments n size) 0
    ++ (guard (board_walk settings n size width board) room ∷ [])))

unfoldable pub merge_answer : (settings : Settings) (n size width : ℕ) (board : List ℕ) (room : ℕ) → Answer
merge_answer settings n size width board room = ruled (verdict (merge_rows settings n size width board room)) Err (Ok (length (board_walk settings n size width board)))

unfoldable pub merge_leaves : (settings : Settings) (n size width : ℕ) (board list : List ℕ) → List ℕ
merge_leaves settings n size width board list =
    leaves (verdict (merge_rows settings n size width board (length list))) ListFull list (written_list (board_walk settings n size width board) list)
