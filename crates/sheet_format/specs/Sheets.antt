-- A cut sheet: body, trailer and check word. Document 01, "The cut sheet".
use Rattle.std.specs.Prelude.{ℕ, ◌-◌, Bool, List, ◌++◌, length, take, ◌==◌, slice_set}
use Rattle.terms.specs.declared.Settings.{Settings}
use Rattle.terms.specs.declared.Label.{Label}
use Rattle.words.specs.Numbers.{big_endian, written, numbers_of, number_at}
use Rattle.sheet_format.specs.Forms.{Form}
use Rattle.sheet_format.specs.Trailer.{fields, trailer_for}

-- a sheet's last word is the check word of the words before it
unfoldable pub checked : (form : Form) (sheet : List ℕ) → Bool
checked form sheet =
    let before = length sheet - 4 in
    ((number_at before 4 sheet) == form.word (numbers_of 4 (take before sheet)))

-- bytes with their check word after them
unfoldable pub with_check : (form : Form) (bytes : List ℕ) → List ℕ
with_check form bytes = bytes ++ big_endian 4 (form.word (numbers_of 4 bytes))

-- a body of count cuts, then the trailer
unfoldable pub sealed : (form : Form) (settings : Settings) (label : Label) (count : ℕ) (body : List ℕ) → List ℕ
sealed form settings label count body = with_check form (body ++ fields form.mark (trailer_for settings label count))

-- one 8-byte offset a cut, then the trailer
unfoldable pub sheet_of : (form : Form) (settings : Settings) (label : Label) (list : List ℕ) → List ℕ
sheet_of form settings label list = sealed form settings label (length list) (written 8 list)

-- a sheet with its k-th 32-bit word damaged, counted from 0 at the body's start
abbrev pub damaged : (k word : ℕ) (sheet : List ℕ) → List ℕ
damaged k word sheet = written 4 (slice_set (numbers_of 4 sheet) k word)
