-- The form of a sheet: the mark that its trailer begins with, and the rule of its check word. Document 01, "The cut sheet".
use Rattle.std.specs.Prelude.{ℕ, ◌+◌, ◌-◌, ◌%◌, ◌^◌, List, [], ◌∷◌}

-- four bytes; and the check word that follows these words
pub record Form : Type 0 where
  pub mark : List ℕ
  pub word : (words : List ℕ) → ℕ

unfoldable pub total : (words : List ℕ) → ℕ
total [] = 0
total (word ∷ rest) = word + total rest

-- the word that, after these, makes all add to zero modulo 2^32
unfoldable pub check_word : (words : List ℕ) → ℕ
check_word words = (2 ^ 32 - total words % 2 ^ 32) % 2 ^ 32

-- the four bytes CUTS, and words that add to zero
abbrev pub cuts_form : Form
cuts_form = record { mark = 67 ∷ 85 ∷ 84 ∷ 83 ∷ []; word = check_word }
