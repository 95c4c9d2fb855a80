-- The check word of the form CUTS, by wrapping sums.
use Rattle.std.proofs.Common.{◌≡◌, ℕ, suc, ◌+◌, ◌-◌, ◌*◌, ◌%◌, ◌^◌, ◌<◌, true, List, [], ◌∷◌, ◌++◌, length, get_or, take, sym, take-suc, add-zero, add_assoc, add-one, arith, lit<, eqb-true}
use native.Mathlib.Nat.{mod-add-mod}
use Rattle.words.specs.Numbers.{numbers_of, number_at}
use Rattle.words.proofs.Back.{numbers_of_more}
use Rattle.sheet_format.specs.Forms.{Form, total, check_word, cuts_form}
use Rattle.sheet_format.specs.Sheets.{checked}

pub total-append : (l m : List ℕ) → total (l ++ m) ≡ total l + total m
unfolding total
total-append [] m = omega arith
total-append (x ∷ l) m = rw (total-append l m) (sym (add_assoc x (total l) (total m)))

-- one word more
pub sum_more : (words : List ℕ) (i : ℕ) {word : ℕ} → i < length words → get_or words i 0 ≡ word → (total (take i words) % 2 ^ 32 + word) % 2 ^ 32 ≡ total (take (i + 1) words) % 2 ^ 32
unfolding total
sum_more words i h e = rw (add-one, take-suc words i 0 h, total-append, e, mod-add-mod, add-zero)

-- what a wrapping difference from 0 gives is the check word
pub check_is : (r : ℕ) (words : List ℕ) → r < 2 ^ 32 → (r + total words % 2 ^ 32) % 2 ^ 32 ≡ 0 → r ≡ check_word words
unfolding check_word
check_is r words h e = omega arith

pub check_word-lt : (words : List ℕ) → check_word words < 2 ^ 32
unfolding check_word
check_word-lt words = omega arith

-- the last word of a checked sheet is the check word of what stands before it, in any form
pub checked_word : (form : Form) (sheet : List ℕ) (n : ℕ) → length sheet ≡ n + 4 → checked form sheet ≡ true → number_at n 4 sheet ≡ form.word (numbers_of 4 (take n sheet))
unfolding checked
checked_word form sheet n long ok =
    let place : length sheet - 4 ≡ n = omega arith in
    eqb-true _ _ (rw place at ok)

zero_sum : (words : List ℕ) → (total words + total (check_word words ∷ [])) % 2 ^ 32 ≡ 0
unfolding total check_word
zero_sum words = omega arith

-- the words of a checked sheet add to zero modulo 2^32
pub checked_adds : (sheet : List ℕ) (k : ℕ) → length sheet ≡ 4 * suc k → checked cuts_form sheet ≡ true → total (numbers_of 4 sheet) % 2 ^ 32 ≡ 0
checked_adds sheet k e ok =
    rw (numbers_of_more 4 (lit< tt) k sheet e, total-append, checked_word cuts_form sheet (4 * k) (omega arith) ok) (zero_sum (numbers_of 4 (take (4 * k) sheet)))
