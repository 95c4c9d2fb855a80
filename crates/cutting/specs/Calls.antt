-- What cutting a whole log answers, and what it leaves in the lent list: document 01, "Numbers answered".
use Rattle.std.specs.Prelude.{ℕ, not, List, [], ◌∷◌, ltb, length, Ok, Err}
use Rattle.terms.specs.declared.Settings.{Settings}
use Rattle.terms.specs.Answers.{Answer}
use Rattle.terms.specs.declared.Refusal.TheVariants.{SettingsOutOfRange, LogTooLong, RoomTooShort, ListFull}
use Rattle.terms.specs.Settings.{in_range}
use Rattle.terms.specs.Answers.{longest, room_for}
use Rattle.terms.specs.Rows.{Row, row, verdict, ruled, leaves}
use Rattle.lists.specs.Written.{guard, written_list}
use Rattle.cutting.specs.Marks.{cut_list}

-- 1, 2, 5, and the guard
unfoldable pub cut_log_rows : (settings : Settings) (log : List ℕ) (room : ℕ) → List Row
cut_log_rows settings log room =
    row SettingsOutOfRange (not (in_range settings))
    ∷ row LogTooLong (ltb longest (length log))
    ∷ row RoomTooShort (ltb room (room_for settings.minimum (length log)))
    ∷ guard (cut_list settings log) room
    ∷ []

-- the entries written
unfoldable pub cut_log_answer : (settings : Settings) (log : List ℕ) (room : ℕ) → Answer
cut_log_answer settings log room = ruled (verdict (cut_log_rows settings log room)) Err (Ok (length (cut_list settings log)))

-- the list at exit
unfoldable pub cut_log_leaves : (settings : Settings) (log list : List ℕ) → List ℕ
cut_log_leaves settings log list = leaves (verdict (cut_log_rows settings log (length list))) ListFull list (written_list (cut_list settings log) list)
