-- Writing a sheet: document 01, "Numbers answered".
use Rattle.std.specs.Prelude.{ℕ, ◌+◌, ◌*◌, not, List, [], ◌∷◌, ltb, length, Ok, Err}
use Rattle.laws.specs.Over.{over}
use Rattle.terms.specs.declared.Settings.{Settings}
use Rattle.terms.specs.declared.Label.{Label}
use Rattle.terms.specs.Answers.{Answer}
use Rattle.terms.specs.declared.Refusal.TheVariants.{SettingsOutOfRange, ListNotWellFormed, TooManyCuts, RoomTooShort}
use Rattle.terms.specs.Settings.{in_range}
use Rattle.terms.specs.Rows.{Row, row, verdict, ruled}
use Rattle.lists.specs.WellFormed.{well_formed}
use Rattle.sheet_format.specs.Forms.{cuts_form}
use Rattle.sheet_format.specs.Trailer.{most_cuts}
use Rattle.sheet_format.specs.Sheets.{sheet_of}

-- 8 bytes a cut, and the trailer
abbrev pub sheet_size : (count : ℕ) → ℕ
sheet_size count = 8 * count + 32

-- 1, 10, 16, 5
unfoldable pub write_sheet_rows : (settings : Settings) (list : List ℕ) (room : ℕ) → List Row
write_sheet_rows settings list room =
    row SettingsOutOfRange (not (in_range settings))
    ∷ row ListNotWellFormed (not (well_formed settings.minimum settings.maximum list))
    ∷ row TooManyCuts (ltb most_cuts (length list))
    ∷ row RoomTooShort (ltb room (sheet_size (length list)))
    ∷ []

unfoldable pub write_sheet_answer : (settings : Settings) (list : List ℕ) (room : ℕ) → Answer
write_sheet_answer settings list room = ruled (verdict (write_sheet_rows settings list room)) Err (Ok (sheet_size (length list)))

unfoldable pub write_sheet_leaves : (settings : Settings) (label : Label) (list bytes : List ℕ) → List ℕ
write_sheet_leaves settings label list bytes =
    ruled (verdict (write_sheet_rows settings list (length bytes))) (λ _. bytes) (over (sheet_of cuts_form settings label list) bytes)
