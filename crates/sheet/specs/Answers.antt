-- What stands beside the reader's answer, as document 01's "Numbers answered" counts it: the number, 0 for a success, and the label's byte, the
-- settings and the count, each 0 beside a refusal.
use Rattle.std.specs.Prelude.{ℕ, Result, Ok, Err}
use Rattle.terms.specs.declared.Settings.{Settings}
use Rattle.terms.specs.declared.Label.{Label}
use Rattle.terms.specs.declared.Refusal.{Refusal}
use Rattle.terms.specs.Settings.{no_settings}
use Rattle.terms.specs.Labels.{byte_of}
use Rattle.sheet.specs.declared.Sheet.{Sheet}
use Rattle.terms.specs.Refusals.{number_of}

-- what reading answers: what the sheet says, or why it is refused
abbrev pub SheetAnswer : Type 0
SheetAnswer = Result Sheet Refusal

abbrev pub read : (label : Label) (settings : Settings) (count : ℕ) → SheetAnswer
read label settings count = Ok (record { label = label; settings = settings; count = count })

unfoldable pub sheet_number : SheetAnswer → ℕ
sheet_number (Ok sheet) = 0
sheet_number (Err why) = number_of why

unfoldable pub sheet_label : SheetAnswer → ℕ
sheet_label (Ok sheet) = byte_of sheet.label
sheet_label (Err why) = 0

unfoldable pub sheet_settings : SheetAnswer → Settings
sheet_settings (Ok sheet) = sheet.settings
sheet_settings (Err why) = no_settings

unfoldable pub sheet_count : SheetAnswer → ℕ
sheet_count (Ok sheet) = sheet.count
sheet_count (Err why) = 0
