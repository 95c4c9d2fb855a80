-- The sheet at the end of bytes, and what is clean in it: document 01, "The cut sheet" and "Numbers answered".
use Rattle.std.specs.Prelude.{◌≡◌, ℕ, ◌-◌, Bool, not, ◌&&◌, List, [], ◌∷◌, length, take, drop, nat_le, Ok}
use Rattle.terms.specs.declared.Refusal.TheVariants.{NoSheet, TrailerWrong, CheckWordWrong, ListNotWellFormed}
use Rattle.terms.specs.Rows.{Row, row, verdict}
use Rattle.lists.specs.WellFormed.{well_formed}
use Rattle.words.specs.Numbers.{numbers_of}
use Rattle.words.specs.Runs.{same}
use Rattle.sheet_format.specs.declared.trailer.Trailer.{Trailer}
use Rattle.sheet_format.specs.Forms.{Form}
use Rattle.sheet_format.specs.Trailer.{trailer_in, trailer_right}
use Rattle.sheet_format.specs.Sheets.{checked}

-- the trailer is the last 32 bytes
unfoldable pub trailer_bytes : (bytes : List ℕ) → List ℕ
trailer_bytes bytes = drop (length bytes - 32) bytes

unfoldable pub trailer_of : (bytes : List ℕ) → Trailer
trailer_of bytes = trailer_in (trailer_bytes bytes)

-- the sheet is the trailer and as many bytes before it as its distance says; what stands before them is not read
unfoldable pub sheet_in : (bytes : List ℕ) → List ℕ
sheet_in bytes = drop (length bytes - 32 - (trailer_of bytes).distance) bytes

-- its body, and the offsets there
unfoldable pub body_in : (bytes : List ℕ) → List ℕ
body_in bytes = take (trailer_of bytes).distance (sheet_in bytes)

unfoldable pub list_in : (bytes : List ℕ) → List ℕ
list_in bytes = numbers_of 8 (body_in bytes)

-- there is a trailer, and it begins with the mark
unfoldable pub has_trailer : (mark bytes : List ℕ) → Bool
has_trailer mark bytes = nat_le 32 (length bytes) && same mark (take 4 (trailer_bytes bytes))

-- the offsets are a well-formed list under the trailer's settings
unfoldable pub has_list : (bytes : List ℕ) → Bool
has_list bytes =
    let settings = (trailer_of bytes).settings in
    well_formed settings.minimum settings.maximum (list_in bytes)

-- the rows that judge the bytes whatever is asked for: 12, 14, 13, 10
unfoldable pub clean_rows : (form : Form) (bytes : List ℕ) → List Row
clean_rows form bytes =
    row NoSheet (not (has_trailer form.mark bytes))
    ∷ row TrailerWrong (not (trailer_right (length bytes - 32) (trailer_of bytes)))
    ∷ row CheckWordWrong (not (checked form (sheet_in bytes)))
    ∷ row ListNotWellFormed (not (has_list bytes))
    ∷ []

-- bytes read cleanly where none of these rows holds
abbrev pub ReadsCleanly : (form : Form) (bytes : List ℕ) → Type 0
ReadsCleanly form bytes = verdict (clean_rows form bytes) ≡ Ok tt
