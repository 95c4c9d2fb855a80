-- Reading a sheet: document 01, "Numbers answered".
use Rattle.std.specs.Prelude.{ℕ, not, List, [], ◌∷◌, ◌++◌, ltb, eqb, length, Err}
use Rattle.laws.specs.Over.{over}
use Rattle.terms.specs.declared.Label.{Label}
use Rattle.terms.specs.declared.Refusal.TheVariants.{OtherLabel, RoomTooShort}
use Rattle.terms.specs.Labels.{byte_of, label_of}
use Rattle.terms.specs.Rows.{Row, row, verdict, ruled}
use Rattle.sheet.specs.Answers.{SheetAnswer, read}
use Rattle.sheet_format.specs.Forms.{cuts_form}
use Rattle.sheet_format.specs.Clean.{trailer_of, list_in, clean_rows}

-- 12, 14, 13, 10, 15, 5: the bytes, then the label, then room for the count
unfoldable pub read_sheet_rows : (bytes : List ℕ) (asked : Label) (room : ℕ) → List Row
read_sheet_rows bytes asked room =
    clean_rows cuts_form bytes
    ++ (row OtherLabel (not (eqb (trailer_of bytes).label (byte_of asked)))
    ∷ row RoomTooShort (ltb room (trailer_of bytes).count)
    ∷ [])

unfoldable pub read_sheet_answer : (bytes : List ℕ) (asked : Label) (room : ℕ) → SheetAnswer
read_sheet_answer bytes asked room =
    let t = trailer_of bytes in
    ruled (verdict (read_sheet_rows bytes asked room)) Err (read (label_of t.label) t.settings t.count)

unfoldable pub read_sheet_leaves : (bytes : List ℕ) (asked : Label) (list : List ℕ) → List ℕ
read_sheet_leaves bytes asked list = ruled (verdict (read_sheet_rows bytes asked (length list))) (λ _. list) (over (list_in bytes) list)
