-- A word of a sheet that reads cleanly, exchanged for another, is always found: a wrong count or distance no longer agree with each other,
-- and any other word makes the sum of all words other than zero. This is of the form CUTS.
use Rattle.std.proofs.Common.{◌≡◌, ℕ, zero, suc, ◌+◌, ◌-◌, ◌*◌, ◌%◌, ◌^◌, ◌<◌, eqb, List, [], ◌∷◌, ◌++◌, length, get_or, take, drop, set, sym, ap, ◌∙◌, le_of_suc-le-suc, arith, lit<, length-append, length-drop, length-set, take-append-drop, get_or-drop, get_or-set_other, get_or-set_same, eqb-true}
use lib.Seq.{drop-append-add}
use borrow.Author.Tests.{eqb-false}
use Rattle.laws.specs.Bytes.{Bytes}
use Rattle.laws.proofs.Bytes.{bytes_drop}
use Rattle.laws.proofs.Cases.{by_test}
use Rattle.words.specs.Numbers.{written, numbers_of, number_at}
use Rattle.words.proofs.BigEndian.{length_written}
use Rattle.words.proofs.Back.{Wide, numbers_of_written, length-numbers_of, written_numbers_of, numbers_of_wide, drop_written, number_at_written}
use Rattle.sheet_format.specs.Forms.{total, cuts_form}
use Rattle.sheet_format.specs.Trailer.{trailer_in}
use Rattle.sheet_format.specs.Sheets.{damaged}
use Rattle.sheet_format.specs.Clean.{trailer_bytes, trailer_of, sheet_in, ReadsCleanly}
use Rattle.sheet_format.proofs.CheckWord.{checked_adds}
use Rattle.sheet_format.proofs.Parts.{sheet_at}
use Rattle.sheet_format.proofs.Lent.{right_facts}
use Rattle.sheet_format.proofs.Cleanly.{Clean, clean, length_sheet}

-- a word exchanged for another moves the sum by their difference
total-set : (l : List ℕ) (k w : ℕ) → k < length l → total (set l k w) + get_or l k 0 ≡ total l + w
unfolding total
total-set [] k w h = absurd (omega arith)
total-set (x ∷ l) zero w h = omega arith
total-set (x ∷ l) (suc k) w h = omega (arith, total-set l k w (le_of_suc-le-suc h))

wide_set : (width : ℕ) (l : List ℕ) (k w : ℕ) → k < length l → Wide width l → w < 2 ^ (8 * width) → Wide width (set l k w)
wide_set width l k w h wide hw i =
    by_test (eqb i k)
    (λ e. rw (eqb-true i k e, get_or-set_same l k w 0 h) hw)
    (λ e. rw (get_or-set_other l k i w 0 (eqb-false i k e)) (wide i))

-- a sheet of words, with any bytes before it, as the reader sees it
module _ (before words : List ℕ) (count : ℕ) (size : length words ≡ 2 * count + 8) (wide : Wide 4 words) where
  length_bytes : length (before ++ written 4 words) ≡ length before + 8 * count + 32
  length_bytes = rw (length-append, length_written, size) (omega arith)

  word_of_trailer : (j : ℕ) → j < 8 → number_at (4 * j) 4 (trailer_bytes (before ++ written 4 words)) ≡ get_or words (2 * count + j) 0
  unfolding trailer_bytes
  word_of_trailer j h =
      let place : length (before ++ written 4 words) - 32 ≡ length before + 4 * (2 * count) = omega (arith, length_bytes) in
      rw (place, drop-append-add before (written 4 words) (4 * (2 * count)), drop_written 4 (2 * count) words)
      (number_at_written 4 j (drop (2 * count) words) (rw length-drop (omega arith)) (λ i. rw get_or-drop (wide (2 * count + i))) ∙ get_or-drop (2 * count) words j 0)

  the_count : (trailer_of (before ++ written 4 words)).count ≡ get_or words (2 * count + 5) 0
  unfolding trailer_of trailer_in
  the_count = word_of_trailer 5 (lit< tt)

  the_distance : (trailer_of (before ++ written 4 words)).distance ≡ get_or words (2 * count + 6) 0
  unfolding trailer_of trailer_in
  the_distance = word_of_trailer 6 (lit< tt)

  -- where it is clean, the count ties the distance; and where that is the body's length, the words add to zero
  module _ (clean : Clean cuts_form (before ++ written 4 words)) where
    tied : get_or words (2 * count + 6) 0 ≡ 8 * get_or words (2 * count + 5) 0
    tied = sym the_distance ∙ (right_facts clean.right).distance ∙ ap (λ (n : ℕ). 8 * n) the_count

    adds : get_or words (2 * count + 6) 0 ≡ 8 * count → total words % 2 ^ 32 ≡ 0
    adds e =
        let long : length (written 4 words) ≡ 8 * count + 32 = rw (length_written, size) (omega arith) in
        rw (numbers_of_written 4 (lit< tt) words wide) at
        (checked_adds (written 4 words) (2 * count + 7) (omega arith) (rw (sheet_at before (written 4 words) (8 * count) long (the_distance ∙ e)) at clean.sound))

-- the words of a sheet that reads cleanly, and what stands before it
record Words (before : List ℕ) (count : ℕ) (words : List ℕ) : Type 0 where
  size : length words ≡ 2 * count + 8
  wide : Wide 4 words
  clean : Clean cuts_form (before ++ written 4 words)
  counted : get_or words (2 * count + 5) 0 ≡ count

-- one of them exchanged for another is not clean, whatever stands before it then
not_clean : (old before words : List ℕ) (count k word : ℕ) → Words old count words → k < length words → word < 2 ^ 32
    → Clean cuts_form (before ++ written 4 (set words k word)) → word ≡ get_or words k 0
not_clean old before words count k word w inside fits a =
    let other-words = set words k word in
    let size : length other-words ≡ 2 * count + 8 = length-set words k word ∙ w.size in
    let wide = wide_set 4 words k word inside w.wide fits in
    let distant : get_or words (2 * count + 6) 0 ≡ 8 * count = tied old words count w.size w.wide w.clean ∙ ap (λ (n : ℕ). 8 * n) w.counted in
    let kept : get_or other-words (2 * count + 6) 0 ≡ 8 * count =
    by_test (eqb (2 * count + 6) k)
    (λ e. tied before other-words count size wide a ∙ ap (λ (n : ℕ). 8 * n) (get_or-set_other words k (2 * count + 5) word 0 (λ q. other (2 * count) q (eqb-true _ _ e)) ∙ w.counted))
    (λ e. get_or-set_other words k (2 * count + 6) word 0 (eqb-false _ _ e) ∙ distant) in
    omega (arith, total-set words k word inside, adds before other-words count size wide a kept, adds old words count w.size w.wide w.clean distant, w.wide k)
  where
    other : (c : ℕ) → c + 5 ≡ k → c + 6 ≡ k → ⊥
    other c p q = omega arith

module _ (bytes : List ℕ) (reads : ReadsCleanly cuts_form bytes) where
  long : length (sheet_in bytes) ≡ 4 * (2 * (trailer_of bytes).count + 8)
  long = length_sheet cuts_form bytes (clean cuts_form bytes reads) ∙ omega arith

  -- all 32-bit words of body and trailer add to zero modulo 2^32
  pub words_add : total (numbers_of 4 (sheet_in bytes)) % 2 ^ 32 ≡ 0
  words_add = checked_adds (sheet_in bytes) (2 * (trailer_of bytes).count + 7) (long ∙ omega arith) (clean cuts_form bytes reads).sound

  module _ (h : Bytes bytes) where
    sheet_words : Words (take (length bytes - 32 - (trailer_of bytes).distance) bytes) (trailer_of bytes).count (numbers_of 4 (sheet_in bytes))
    unfolding sheet_in
    sheet_words =
        let n = (trailer_of bytes).count in
        let k = length bytes - 32 - (trailer_of bytes).distance in
        let sheet = drop k bytes in
        let own = bytes_drop k bytes h in
        let size = length-numbers_of 4 (lit< tt) (2 * n + 8) sheet long in
        let wide = numbers_of_wide 4 (lit< tt) (2 * n + 8) sheet own long in
        let whole : take k bytes ++ written 4 (numbers_of 4 sheet) ≡ bytes = rw (written_numbers_of 4 (lit< tt) (2 * n + 8) sheet own long) (take-append-drop k bytes) in
        let counted = sym (the_count (take k bytes) (numbers_of 4 sheet) n size wide) ∙ ap (λ (b : List ℕ). (trailer_of b).count) whole in
        record { size = size; wide = wide; clean = rw whole (clean cuts_form bytes reads); counted = counted }

    -- a word, in body or trailer, that reads as another is found, whatever stands before the sheet
    pub damage_found : (before : List ℕ) (k word : ℕ) → k < length (numbers_of 4 (sheet_in bytes)) → word < 2 ^ 32 → (word ≡ get_or (numbers_of 4 (sheet_in bytes)) k 0 → ⊥)
        → ReadsCleanly cuts_form (before ++ damaged k word (sheet_in bytes)) → ⊥
    damage_found before k word inside fits differs reads' =
        differs (not_clean _ before (numbers_of 4 (sheet_in bytes)) (trailer_of bytes).count k word sheet_words inside fits (clean cuts_form _ reads'))
