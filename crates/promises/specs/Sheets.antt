-- What the promises about sheets say: document 01, "The cut sheet" and "Numbers answered".
use Rattle.std.specs.Prelude.{ℕ, ◌+◌, ◌*◌, ◌≡◌, List, [], ◌∷◌, length, take, drop, get_or}
use Rattle.laws.specs.Bytes.{Bytes}
use Rattle.terms.specs.declared.Settings.{Settings}
use Rattle.terms.specs.declared.Label.{Label}
use Rattle.terms.specs.Answers.{Answer}
use Rattle.terms.specs.Settings.{no_settings}
use Rattle.terms.specs.Labels.{byte_of}
use Rattle.terms.specs.Answers.{answer_count}
use Rattle.words.specs.Numbers.{numbers_of, number_at}
use Rattle.sheet_format.specs.Forms.{cuts_form}
use Rattle.sheet_format.specs.Sheets.{sheet_of}
use Rattle.sheet_format.specs.Clean.{trailer_of, sheet_in, list_in, ReadsCleanly}
use Rattle.sheet.specs.Answers.{SheetAnswer}
use Rattle.sheet.specs.Answers.{sheet_label, sheet_settings, sheet_count}

-- beside a refusal of reading every value is 0
pub record NothingRead (answer : SheetAnswer) : Type 0 where
  pub label : sheet_label answer ≡ 0
  pub settings : sheet_settings answer ≡ no_settings
  pub count : sheet_count answer ≡ 0

-- a success gives the label asked for and the trailer's settings and count, writes the list, and leaves the entries past it
pub record ReadOut (bytes : List ℕ) (asked : Label) (answer : SheetAnswer) (list after : List ℕ) : Type 0 where
  pub label : sheet_label answer ≡ byte_of asked
  pub settings : sheet_settings answer ≡ (trailer_of bytes).settings
  pub count : sheet_count answer ≡ (trailer_of bytes).count
  pub entries : take (sheet_count answer) after ≡ list_in bytes
  pub others_stay : drop (sheet_count answer) after ≡ drop (sheet_count answer) list

-- a success of writing answers 8 bytes a cut and 32, writes the sheet, and leaves the bytes past it
pub record WrittenOut (settings : Settings) (label : Label) (list : List ℕ) (answer : Answer) (bytes after : List ℕ) : Type 0 where
  pub count : answer_count answer ≡ 8 * length list + 32
  pub sheet : take (answer_count answer) after ≡ sheet_of cuts_form settings label list
  pub others_stay : drop (answer_count answer) after ≡ drop (answer_count answer) bytes

-- a sheet is laid out as document 01 says: body, then trailer
pub record LaidOut (settings : Settings) (label : Label) (list body trailer : List ℕ) : Type 0 where
  pub offsets : numbers_of 8 body ≡ list
  pub mark : take 4 trailer ≡ 67 ∷ 85 ∷ 84 ∷ 83 ∷ []
  pub label_byte : get_or trailer 4 0 ≡ byte_of label
  pub bits : get_or trailer 5 0 ≡ settings.bits
  pub zero_6 : get_or trailer 6 0 ≡ 0
  pub zero_7 : get_or trailer 7 0 ≡ 0
  pub target : number_at 8 4 trailer ≡ settings.target
  pub minimum : number_at 12 4 trailer ≡ settings.minimum
  pub maximum : number_at 16 4 trailer ≡ settings.maximum
  pub count : number_at 20 4 trailer ≡ length list
  pub distance : number_at 24 4 trailer ≡ 8 * length list

-- what was written reads cleanly, and the sheet that is found is all of it
pub record Sound (bytes sheet : List ℕ) : Type 0 where
  pub cleanly : ReadsCleanly cuts_form bytes
  pub whole : sheet_in bytes ≡ sheet
  pub of_bytes : Bytes sheet

-- log C's 48/200 list as practice: 64 bytes, check word 0x6C8BA6A8
abbrev pub figure_settings : Settings
figure_settings = record { bits = 31; target = 1; minimum = 48; maximum = 200 }

abbrev pub figure_list : List ℕ
figure_list = 100 ∷ 200 ∷ 300 ∷ 400 ∷ []

abbrev pub figure_bytes : List ℕ
figure_bytes =
    0 ∷ 0 ∷ 0 ∷ 0 ∷ 0 ∷ 0 ∷ 0 ∷ 100
    ∷ 0 ∷ 0 ∷ 0 ∷ 0 ∷ 0 ∷ 0 ∷ 0 ∷ 200
    ∷ 0 ∷ 0 ∷ 0 ∷ 0 ∷ 0 ∷ 0 ∷ 1 ∷ 44
    ∷ 0 ∷ 0 ∷ 0 ∷ 0 ∷ 0 ∷ 0 ∷ 1 ∷ 144
    ∷ 67 ∷ 85 ∷ 84 ∷ 83 ∷ 80 ∷ 31 ∷ 0 ∷ 0
    ∷ 0 ∷ 0 ∷ 0 ∷ 1 ∷ 0 ∷ 0 ∷ 0 ∷ 48
    ∷ 0 ∷ 0 ∷ 0 ∷ 200 ∷ 0 ∷ 0 ∷ 0 ∷ 4
    ∷ 0 ∷ 0 ∷ 0 ∷ 32 ∷ 0x6C ∷ 0x8B ∷ 0xA6 ∷ 0xA8
    ∷ []
