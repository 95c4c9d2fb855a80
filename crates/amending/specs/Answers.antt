-- What amending answers and leaves, for every input: document 01, "Numbers answered".
use Rattle.std.specs.Prelude.{ℕ, ◌+◌, ◌-◌, Bool, not, ◌&&◌, List, [], ◌∷◌, leb, ltb, eqb, length, Result, Ok, Err}
use Rattle.terms.specs.declared.Settings.{Settings}
use Rattle.terms.specs.declared.Refusal.TheVariants.{SettingsOutOfRange, LogTooLong, RoomTooShort, ListNotWellFormed, EditOutOfRange, ListFull}
use Rattle.terms.specs.Settings.{in_range}
use Rattle.terms.specs.Refusals.{number_of}
use Rattle.terms.specs.Answers.{longest, room_for}
use Rattle.terms.specs.Rows.{Row, row, verdict, ruled, leaves}
use Rattle.lists.specs.WellFormed.{well_formed, length_of}
use Rattle.rule.specs.Rule.{cuts_from}
use Rattle.cutting.specs.Marks.{mark}
use Rattle.lists.specs.Written.{guard, written_list}
use Rattle.terms.specs.declared.Refusal.{Refusal}
use Rattle.amending.specs.declared.edits.Edit.{Edit}
use Rattle.amending.specs.declared.Counts.{Counts}
use Rattle.amending.specs.Parts.{front, recut, back, amended_list}

-- what amending answers: the entries of the three parts, or why it is refused
abbrev pub Amendment : Type 0
Amendment = Result Counts Refusal

abbrev pub amended : (f r b : ℕ) → Amendment
amended f r b = Ok (record { front = f; recut = r; back = b })

-- the number answered; 0 stands beside a success
unfoldable pub amendment_number : Amendment → ℕ
amendment_number (Ok a) = 0
amendment_number (Err why) = number_of why

-- the three counts; beside a refusal each is 0
unfoldable pub front_of : Amendment → ℕ
front_of (Ok a) = a.front
front_of (Err why) = 0

unfoldable pub recut_of : Amendment → ℕ
recut_of (Ok a) = a.recut
recut_of (Err why) = 0

unfoldable pub back_of : Amendment → ℕ
back_of (Ok a) = a.back
back_of (Err why) = 0

-- the new log's cuts after the cut c
abbrev pub new_cuts_of : (settings : Settings) (log : List ℕ) (c : ℕ) → List ℕ
new_cuts_of settings log c = cuts_from (mark settings log) settings.minimum settings.maximum (length log) c

-- s is not past the old length n, d not past what follows s, and the new length is n - d + e
unfoldable pub edit_fits : (n : ℕ) (edit : Edit) (bytes : ℕ) → Bool
edit_fits n edit bytes = leb edit.at n && (leb edit.removed (n - edit.at) && eqb bytes (n - edit.removed + edit.added))

-- a success
abbrev pub counts : (new_cuts : ℕ → List ℕ) (old : List ℕ) (edit : Edit) → Amendment
counts new_cuts old edit = amended (length (front edit.at old)) (length (recut new_cuts old edit)) (length (back new_cuts old edit))

-- 1, 10, 11, 2, 5, and the guard
unfoldable pub amend_rows : (settings : Settings) (old : List ℕ) (edit : Edit) (log : List ℕ) (room : ℕ) → List Row
amend_rows settings old edit log room =
    row SettingsOutOfRange (not (in_range settings))
    ∷ row ListNotWellFormed (not (well_formed settings.minimum settings.maximum old))
    ∷ row EditOutOfRange (not (edit_fits (length_of old) edit (length log)))
    ∷ row LogTooLong (ltb longest (length log))
    ∷ row RoomTooShort (ltb room (room_for settings.minimum (length log)))
    ∷ guard (amended_list (new_cuts_of settings log) old edit) room
    ∷ []

-- the counts of the three parts
unfoldable pub amend_answer : (settings : Settings) (old : List ℕ) (edit : Edit) (log : List ℕ) (room : ℕ) → Amendment
amend_answer settings old edit log room = ruled (verdict (amend_rows settings old edit log room)) Err (counts (new_cuts_of settings log) old edit)

-- the list at exit
unfoldable pub amend_leaves : (settings : Settings) (old : List ℕ) (edit : Edit) (log list : List ℕ) → List ℕ
amend_leaves settings old edit log list =
    leaves (verdict (amend_rows settings old edit log (length list))) ListFull list (written_list (amended_list (new_cuts_of settings log) old edit) list)
