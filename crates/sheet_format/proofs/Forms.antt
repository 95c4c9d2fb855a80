-- What the laws of sheets ask of a form: its mark is four bytes, and its check word a word.
use Rattle.std.proofs.Common.{◌≡◌, ℕ, ◌^◌, ◌<◌, List, [], ◌∷◌, length, refl, arith}
use Rattle.laws.specs.Bytes.{Bytes}
use Rattle.words.proofs.Back.{bytes_test}
use Rattle.sheet_format.specs.Forms.{Form, cuts_form}
use Rattle.sheet_format.proofs.CheckWord.{check_word-lt}

pub record Formed (form : Form) : Type 0 where
  pub four : length form.mark ≡ 4
  pub bytes : Bytes form.mark
  pub low : (words : List ℕ) → form.word words < 2 ^ 32

pub cuts_formed : Formed cuts_form
cuts_formed = record { four = refl; bytes = bytes_test cuts_form.mark refl; low = check_word-lt }

-- what holds of any four bytes holds of a mark
pub by_mark : (P : List ℕ → Type 0) → ((a b c d : ℕ) → P (a ∷ b ∷ c ∷ d ∷ [])) → (mark : List ℕ) → length mark ≡ 4 → P mark
by_mark P p [] e = absurd (omega arith)
by_mark P p (a ∷ []) e = absurd (omega arith)
by_mark P p (a ∷ b ∷ []) e = absurd (omega arith)
by_mark P p (a ∷ b ∷ c ∷ []) e = absurd (omega arith)
by_mark P p (a ∷ b ∷ c ∷ d ∷ []) e = p a b c d
by_mark P p (a ∷ b ∷ c ∷ d ∷ x ∷ l) e = absurd (omega arith)
